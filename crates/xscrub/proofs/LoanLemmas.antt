-- The device that is handed out for a check, and comes back.
use Rattle.std.proofs.Common.{◌≡◌, ◌⊎◌, ℕ, Bool, true, false, List, [], ◌∷◌, ◌++◌, Option, Some, None, is_some, Result, IfSome, cond, if◌then◌else◌, inl, inr, refl, sym, ◌∙◌, ap, subst, append_assoc, append-nil, arith}
use Rattle.std.proofs.lemmas.Slice.Eq.{bytes_eq-Decides}
use Rattle.std.specs.Borrow.{Bor}
use Rattle.std.specs.Global.{Vec}
use Rattle.std.specs.Option.{option_map}
use Rattle.std.specs.Str.{bytes_eq}
use Rattle.blk_device.specs.Stored.{blank}
use Rattle.blk_device.specs.declared.device.Region.{Region}
use Rattle.blk_device.specs.Contents.{Contents, Becomes}
use Rattle.blk_device.specs.Crash.{IsDurable}
use Rattle.blk_device.specs.Reading.{EachBlock, Keeps}
use Rattle.blk_device.specs.Taken.{IsFront}
use Rattle.blk_device.specs.declared.device.Device.{Ghosts}
use Rattle.blk_device.specs.declared.device.Region.TheVariants.{Image, Redo}
use Rattle.fs_model.specs.declared.entry.Entry.{Entry}
use Rattle.fresh_image.specs.Written.{AllButFresh, BecomesFresh, OthersStay}
use Rattle.image_check.specs.Image.{ReadsForEvents}
use Rattle.xscrub.specs.Command.{Job, check_of, repair_of, make_of, unbuilt, usage}
use Rattle.xscrub.specs.Ending.{CameBack, EndsUnopened, IsFreshFile, IsWorded, FindsBy, IsOfMake, IsSettled, IsToldOf, IsUnopened, LeavesRedos, LeavesStored, MakesImage, TellsBy, WasMade}
use Rattle.xscrub.proofs.EndingLemmas.{told_none}
use Rattle.xscrub.specs.Image.{device_events}
use Rattle.xscrub.specs.Judged.{ReadsForDevice, journal_in}
use Rattle.xscrub.specs.Outcome.{Outcome, outcome_of}
use Rattle.image_hosts.specs.Stored.{Stored, Loan, Out, Back, HoldsRedo, Lends, IsNew, IsOpened, redo_named, stored_image, stored_redo, stored_with}
use Rattle.xscrub.specs.declared.ending.Finding.{Finding}
use Rattle.xscrub.specs.declared.ending.Finding.TheVariants as findings
use Rattle.xscrub.specs.declared.ending.Status.{Status}
use Rattle.xscrub.specs.declared.ending.Status.TheVariants as statuses
use Rattle.xscrub.specs.declared.judging.JudgeFault.{JudgeFault}
use Rattle.xscrub.specs.declared.judging.Judgement.{Judgement}

pub lent_both : {D : Type 0} (dev back : D) (a b c : Option (List (Loan D))) → Lends (Out dev ∷ []) a b → Lends (Back back ∷ []) b c → Lends (Out dev ∷ Back back ∷ []) a c
lent_both dev back None None None h k = tt
lent_both dev back None None (Some c) h k = absurd k
lent_both dev back None (Some b) c h k = absurd h
lent_both dev back (Some a) None c h k = absurd h
lent_both dev back (Some a) (Some b) None h k = absurd k
lent_both {D = D} dev back (Some a) (Some b) (Some c) h k =
    k ∙ (ap (λ (ls : List (Loan D)). ls ++ Back back ∷ []) h ∙ append_assoc a (Out dev ∷ []) (Back back ∷ []))

-- a device that was judged and put back
pub came_back : {D : Type 0} (g : Ghosts D) (given : Bool) (file redo : Option Stored) (a b c : Option (List (Loan D))) (dev back : D) (result : Result Judgement JudgeFault) (journal : List Entry)
    → Lends (Out dev ∷ []) a b → Lends (Back back ∷ []) b c → IsOpened file redo (g.content dev) (g.blocks dev) → g.content back ≡ g.content dev → Keeps g EachBlock dev back
    → ReadsForDevice given (g.content dev) (g.blocks dev) (g.reads dev) (g.reads back) result → journal_in result ≡ journal → CameBack g given file redo a c journal
came_back g given file redo a b c dev back result journal out home opened same crash kept is = record {
  dev = dev;
  back = back;
  lent = lent_both dev back a b c out home;
  opened_so = opened;
  same = same;
  crash = crash;
  kept = subst (λ (js : List Entry). IfSome (g.content dev) (λ m. ReadsForEvents (device_events given (g.blocks dev Redo) (g.blocks dev Image) m) (g.reads dev) (g.reads back) js)) is kept;
}

-- there was no memory before a device was asked for
pub short_finds : {D : Type 0} (g : Ghosts D) (job : Job) (stored redos : List ℕ → Option Stored) (a b : Option (List (Loan D))) (finding : Finding) → IsUnopened finding → b ≡ a → FindsBy g job stored redos stored redos a b finding
short_finds g usage stored redos a b finding is same = same
short_finds g unbuilt stored redos a b finding is same = same
short_finds g (check_of name redo) stored redos a b finding is same = inl (is, same)
short_finds g (repair_of name redo plan turns) stored redos a b finding is same = inl (is, same, record { images = λ n. refl; redo_files = λ n. refl })
short_finds g (make_of name) stored redos a b finding is same = inl (is, same)

-- a device that a new image was written to, and that was put back
pub was_made : {D : Type 0} (g : Ghosts D) (a b c : Option (List (Loan D))) (dev back : D) (done : Type 0)
    → Lends (Out dev ∷ []) a b → Lends (Back back ∷ []) b c → g.blocks dev Image ≡ 256
    → (done → Becomes (g.content dev) (g.content back) (BecomesFresh 1 256)) → (done → IsDurable Image (g.content back) (g.may_hold_now back))
    → Becomes (g.content dev) (g.content back) (OthersStay 1 256) → Keeps g (AllButFresh 1 256) dev back → WasMade g done a c
was_made g a b c dev back done out home size written durable others crash = record {
  dev = dev;
  back = back;
  lent = lent_both dev back a b c out home;
  size = size;
  written = written;
  durable = durable;
  others = others;
  crash = crash;
}

-- ---- and how that is told

unopened_none : (finding : Finding) → IsUnopened finding → (outcome_of finding).journal ≡ []
unopened_none (findings.Judged journal) is = absurd is
unopened_none (findings.Repaired journal sick) is = absurd is
unopened_none (findings.Full journal) is = absurd is
unopened_none (findings.Refused line) is = absurd is
unopened_none findings.Made is = absurd is
unopened_none findings.Usage is = absurd is
unopened_none (findings.DeviceFailed journal) is = absurd is
unopened_none findings.HostFailed is = refl
unopened_none (findings.Memory journal) is = is

unopened_stops : (finding : Finding) → IsUnopened finding → IsSettled (outcome_of finding).status → ⊥
unopened_stops (findings.Judged journal) is settled = absurd is
unopened_stops (findings.Repaired journal sick) is settled = absurd is
unopened_stops (findings.Full journal) is settled = absurd is
unopened_stops (findings.Refused line) is settled = absurd is
unopened_stops findings.Made is settled = absurd is
unopened_stops findings.Usage is settled = absurd is
unopened_stops (findings.DeviceFailed journal) is settled = absurd is
unopened_stops findings.HostFailed is settled = settled
unopened_stops (findings.Memory journal) is settled = settled

told_unopened : (finding : Finding) (told : Outcome) (k k' : ℕ) → IsUnopened finding → IsToldOf (outcome_of finding) k k' told → (told.journal ≡ []) × (IsSettled told.status → ⊥)
told_unopened finding told k k' is ends = told_none (outcome_of finding) told k k' (unopened_none finding is) (unopened_stops finding is) ends

-- ---- a new image

-- what wasn't settled isn't clean
not_clean : (s : Status) → (IsSettled s → ⊥) → s ≡ statuses.Clean → ⊥
not_clean s stops clean = stops (subst IsSettled (sym clean) tt)

-- the run is clean only where the image was written
pub clean_made : (finding : Finding) (told : Outcome) (k k' : ℕ) → IsOfMake finding → IsToldOf (outcome_of finding) k k' told → told.status ≡ statuses.Clean → finding ≡ findings.Made
clean_made (findings.Judged journal) told k k' of ends clean = absurd of
clean_made (findings.Repaired journal sick) told k k' of ends clean = absurd of
clean_made (findings.Full journal) told k k' of ends clean = absurd of
clean_made (findings.Refused line) told k k' of ends clean = absurd of
clean_made findings.Made told k k' of ends clean = refl
clean_made findings.Usage told k k' of ends clean = absurd of
clean_made (findings.DeviceFailed journal) told k k' of ends clean =
    absurd (not_clean told.status (told_none (outcome_of (findings.DeviceFailed journal)) told k k' of (λ settled. settled) ends).1 clean)
clean_made findings.HostFailed told k k' of ends clean =
    absurd (not_clean told.status (told_none (outcome_of findings.HostFailed) told k k' refl (λ settled. settled) ends).1 clean)
clean_made (findings.Memory journal) told k k' of ends clean =
    absurd (not_clean told.status (told_none (outcome_of (findings.Memory journal)) told k k' of (λ settled. settled) ends).1 clean)

fixed_clash : true ≡ false → ⊥
fixed_clash e = cc

-- it is neither clean nor ended by a failed device only where none was handed out
pub unopened_so : (finding : Finding) (told : Outcome) (k k' : ℕ) → IsOfMake finding → IsToldOf (outcome_of finding) k k' told → EndsUnopened told → IsUnopened finding
unopened_so (findings.Judged journal) told k k' of ends is = absurd of
unopened_so (findings.Repaired journal sick) told k k' of ends is = absurd of
unopened_so (findings.Full journal) told k k' of ends is = absurd of
unopened_so (findings.Refused line) told k k' of ends is = absurd of
unopened_so findings.Made told k k' of (inl whole) is = is.0 (ap (λ (o : Outcome). o.status) whole.0)
unopened_so findings.Made told k k' of (inr (inl failed)) is = failed.2 refl
unopened_so findings.Made told k k' of (inr (inr memory)) is = memory.3 refl
unopened_so findings.Usage told k k' of ends is = absurd of
unopened_so (findings.DeviceFailed journal) told k k' of (inl whole) is = is.1 (ap (λ (o : Outcome). o.last) whole.0)
unopened_so (findings.DeviceFailed journal) told k k' of (inr (inl failed)) is = failed.2 of
unopened_so (findings.DeviceFailed journal) told k k' of (inr (inr memory)) is = fixed_clash (memory.3 of)
unopened_so findings.HostFailed told k k' of ends is = tt
unopened_so (findings.Memory journal) told k k' of ends is = of

-- there was no memory before a device was asked for, and nothing changed
pub short_leaves : (job : Job) (tells : Bool) (journal : Vec Entry) (unopened : Type 0) (stored : List ℕ → Option Stored) → LeavesStored job tells (findings.Memory journal ≡ findings.Made) unopened stored stored
short_leaves usage tells journal unopened stored = λ n. refl
short_leaves unbuilt tells journal unopened stored = λ n. refl
short_leaves (check_of name redo) tells journal unopened stored = λ n. refl
short_leaves (repair_of name redo plan turns) tells journal unopened stored = λ n apart. refl
short_leaves (make_of name) tells journal unopened stored = record { others = λ n apart. refl; fresh_one = λ made. absurd (clash made); kept = λ is n. refl }
  where
    clash : findings.Memory journal ≡ findings.Made → ⊥
    clash e = cc

-- no device was handed out for a new image
pub unmade_stored : (tells : Bool) (name : List ℕ) (done unopened : Type 0) (old new : List ℕ → Option Stored) → (done → ⊥) → ((n : List ℕ) → new n ≡ old n) → MakesImage tells name done unopened old new
unmade_stored tells name done unopened old new not same = record { others = λ n apart. same n; fresh_one = λ is. absurd (not is); kept = λ is n. same n }

-- the new image as it is stored
fresh_file : (content content' : Option Contents) (blocks : Region → ℕ) (file : Option Stored) → content ≡ Some blank → Becomes content content' (BecomesFresh 1 256) → blocks Image ≡ 256 → file ≡ stored_image content' blocks → IsFreshFile file
fresh_file None content' blocks file told becomes size is = absurd (clash told)
  where
    clash : None ≡ Some blank → ⊥
    clash e = cc
fresh_file (Some c) None blocks file told becomes size is = absurd becomes
fresh_file (Some c) (Some m) blocks file told becomes size is = (record { size = blocks Image; at = m Image }, is, size, λ b h. becomes.image b (omega (arith, h)))

told_blank : (tells : Bool) (content : Option Contents) → tells ≡ true → content ≡ (if tells then Some blank else None) → content ≡ Some blank
told_blank true content so is = is
told_blank false content so is = absurd (clash so)
  where
    clash : false ≡ true → ⊥
    clash e = cc

-- a device for a new image that came back
pub made_stored : (tells : Bool) (name : List ℕ) (old mid new : List ℕ → Option Stored) (content content' : Option Contents) (blocks blocks' : Region → ℕ) (done unopened : Type 0)
    → IsNew tells 256 content blocks → blocks' ≡ blocks → (done → Becomes content content' (BecomesFresh 1 256)) → ((n : List ℕ) → bytes_eq n name ≡ false → mid n ≡ old n)
    → ((n : List ℕ) → new n ≡ stored_with name (stored_image content' blocks') mid n) → (unopened → ⊥) → MakesImage tells name done unopened old new
made_stored tells name old mid new content content' blocks blocks' done unopened fit same written outside home not = record {
  others = λ n apart. home n ∙ (ap (λ (b : Bool). cond b (stored_image content' blocks') (mid n)) apart ∙ outside n apart);
  fresh_one = λ is so. fresh_file content content' blocks' (new name) (told_blank tells content so fit.0) (written is) (ap (λ (f : Region → ℕ). f Image) same ∙ fit.1)
      (home name ∙ ap (λ (b : Bool). cond b (stored_image content' blocks') (mid name)) ((bytes_eq-Decides name name).1 refl));
  kept = λ is. absurd (not is);
}

-- the same of what is stored
pub told_stored : (job : Job) (tells : Bool) (finding : Finding) (told : Outcome) (k k' : ℕ) (stored stored' stored'' : List ℕ → Option Stored)
    → IsWorded job finding → IsToldOf (outcome_of finding) k k' told → LeavesStored job tells (finding ≡ findings.Made) (IsUnopened finding) stored stored'
    → ((n : List ℕ) → stored'' n ≡ stored' n) → LeavesStored job tells (told.status ≡ statuses.Clean) (EndsUnopened told) stored stored''
told_stored usage tells finding told k k' stored stored' stored'' worded ends leaves same = λ n. same n ∙ leaves n
told_stored unbuilt tells finding told k k' stored stored' stored'' worded ends leaves same = λ n. same n ∙ leaves n
told_stored (check_of name redo) tells finding told k k' stored stored' stored'' worded ends leaves same = λ n. same n ∙ leaves n
told_stored (repair_of name redo plan turns) tells finding told k k' stored stored' stored'' worded ends leaves same = λ n apart. same n ∙ leaves n apart
told_stored (make_of name) tells finding told k k' stored stored' stored'' worded ends leaves same = record {
  others = λ n apart. same n ∙ leaves.others n apart;
  fresh_one = λ clean so. subst IsFreshFile (sym (same name)) (leaves.fresh_one (clean_made finding told k k' worded ends clean) so);
  kept = λ is n. same n ∙ leaves.kept (unopened_so finding told k k' worded ends is) n;
}

-- and of the redo files
pub told_redos : (job : Job) (redos redos' redos'' : List ℕ → Option Stored) → LeavesRedos job redos redos' → ((n : List ℕ) → redos'' n ≡ redos' n) → LeavesRedos job redos redos''
told_redos usage redos redos' redos'' leaves same = λ n. same n ∙ leaves n
told_redos unbuilt redos redos' redos'' leaves same = λ n. same n ∙ leaves n
told_redos (check_of name redo) redos redos' redos'' leaves same = λ n. same n ∙ leaves n
told_redos (repair_of name redo plan turns) redos redos' redos'' leaves same = λ n apart. same n ∙ leaves n apart
told_redos (make_of name) redos redos' redos'' leaves same = λ n. same n ∙ leaves n

-- all redo files stay
pub all_redos : (job : Job) (redos redos' : List ℕ → Option Stored) → ((n : List ℕ) → redos' n ≡ redos n) → LeavesRedos job redos redos'
all_redos usage redos redos' same = same
all_redos unbuilt redos redos' same = same
all_redos (check_of name redo) redos redos' same = same
all_redos (repair_of name redo plan turns) redos redos' same = λ n apart. same n
all_redos (make_of name) redos redos' same = same

same_front : (told found : List Entry) → told ≡ found → IsFront told found
same_front told found same = ([], sym same ∙ sym (append-nil told))

told_front : (found told : Outcome) (k k' : ℕ) → IsToldOf found k k' told → IsFront told.journal found.journal × ((told.status ≡ statuses.Memory → ⊥) → told.journal ≡ found.journal)
told_front found told k k' (inl whole) =
    let same : told.journal ≡ found.journal = ap (λ (o : Outcome). o.journal) whole.0 in (same_front told.journal found.journal same, λ other. same)
told_front found told k k' (inr (inl failed)) =
    let same : told.journal ≡ found.journal = ap (λ (o : Outcome). o.journal) failed.0 in (same_front told.journal found.journal same, λ other. same)
told_front found told k k' (inr (inr memory)) = (memory.2, λ other. absurd (other memory.0))

holds_on : (name : List ℕ) (held : Option Stored) (old mid new : List ℕ → Option Stored) → HoldsRedo name held old mid → ((n : List ℕ) → new n ≡ mid n) → HoldsRedo name held old new
holds_on name held old mid new holds same = record { others = λ n apart. same n ∙ holds.others n apart; one = by_one holds.one }
  where
    by_one : (mid name ≡ held) ⊎ (mid name ≡ None) → (new name ≡ held) ⊎ (new name ≡ None)
    by_one (inl is) = inl (same name ∙ is)
    by_one (inr none) = inr (same name ∙ none)

pub told_by : {D : Type 0} (g : Ghosts D) (job : Job) (stored redos stored' redos' stored'' redos'' : List ℕ → Option Stored) (a b c : Option (List (Loan D))) (finding : Finding) (told : Outcome) (k k' : ℕ)
    → FindsBy g job stored redos stored' redos' a b finding → c ≡ b → ((n : List ℕ) → stored'' n ≡ stored' n) → ((n : List ℕ) → redos'' n ≡ redos' n) → IsWorded job finding → IsToldOf (outcome_of finding) k k' told
    → TellsBy g job stored redos stored'' redos'' a c told
told_by g usage stored redos stored' redos' stored'' redos'' a b c finding told k k' found same ss rs worded ends = same ∙ found
told_by g unbuilt stored redos stored' redos' stored'' redos'' a b c finding told k k' found same ss rs worded ends = same ∙ found
told_by g (repair_of name redo plan turns) stored redos stored' redos' stored'' redos'' a b c finding told k k' (inl none) same ss rs worded ends =
    let is = told_unopened finding told k k' none.0 ends in inl (same ∙ none.1, is.0, is.1, record { images = λ n. ss n ∙ none.2.images n; redo_files = λ n. rs n ∙ none.2.redo_files n })
told_by {D = D} g (repair_of name redo plan turns) stored redos stored' redos' stored'' redos'' a b c finding told k k' (inr was) same ss rs worded ends =
    inr (record {
      dev = was.dev;
      back = was.back;
      lent = subst (λ (l : Option (List (Loan D))). Lends (Out was.dev ∷ Back was.back ∷ []) a l) (sym same) was.lent;
      opened_so = was.opened_so;
      sizes = was.sizes;
      later = was.later;
      image = ss name ∙ was.image;
      redo_file = holds_on redo (stored_redo (g.content was.back) (g.blocks was.back)) redos redos' redos'' was.redo_file rs;
    })
told_by g (make_of name) stored redos stored' redos' stored'' redos'' a b c finding told k k' (inl none) same ss rs worded ends =
    let is = told_unopened finding told k k' none.0 ends in inl (same ∙ none.1, is.0, is.1)
told_by {D = D} g (make_of name) stored redos stored' redos' stored'' redos'' a b c finding told k k' (inr made) same ss rs worded ends =
    inr (record {
      dev = made.dev;
      back = made.back;
      lent = subst (λ (l : Option (List (Loan D))). Lends (Out made.dev ∷ Back made.back ∷ []) a l) (sym same) made.lent;
      size = made.size;
      written = λ clean. made.written (clean_made finding told k k' worded ends clean);
      durable = λ clean. made.durable (clean_made finding told k k' worded ends clean);
      others = made.others;
      crash = made.crash;
    })
told_by g (check_of name redo) stored redos stored' redos' stored'' redos'' a b c finding told k k' (inl none) same ss rs worded ends =
    let is = told_unopened finding told k k' none.0 ends in inl (same ∙ none.1, is.0, is.1)
told_by {D = D} g (check_of name redo) stored redos stored' redos' stored'' redos'' a b c finding told k k' (inr came) same ss rs worded ends =
    let is = told_front (outcome_of finding) told k k' ends in
    inr ((outcome_of finding).journal, subst (λ (l : Option (List (Loan D))). CameBack g (is_some redo) (stored name) (redo_named redos redo) a l (outcome_of finding).journal) (sym same) came, is.0, is.1)

-- ---- an image that comes back as it was

opened_back : (file redo : Option Stored) (content : Option Contents) (blocks : Region → ℕ) → IsOpened file redo content blocks → stored_image content blocks ≡ file
opened_back None redo content blocks is = ap (λ (t : Option Contents). stored_image t blocks) is
opened_back (Some f) None content blocks is = absurd is
opened_back (Some f) (Some r) content blocks is =
    ap (λ (t : Option Contents). stored_image t blocks) is.0 ∙ ap (λ (n : ℕ). Some (sized n f.at)) is.1
  where
    sized : ℕ → (ℕ → List ℕ) → Stored
    sized n at = record { size = n; at = at }

pub put_back_stored : (name : List ℕ) (old mid new : List ℕ → Option Stored) (redo : Option Stored) (content content' : Option Contents) (blocks blocks' : Region → ℕ)
    → IsOpened (old name) redo content blocks → content' ≡ content → blocks' ≡ blocks → ((n : List ℕ) → bytes_eq n name ≡ false → mid n ≡ old n)
    → ((n : List ℕ) → new n ≡ stored_with name (stored_image content' blocks') mid n) → (n : List ℕ) → new n ≡ old n
put_back_stored name old mid new redo content content' blocks blocks' opened same sizes outside home n =
    home n ∙ by_name (bytes_eq n name) refl
  where
    there : stored_image content' blocks' ≡ old name
    there = ap (λ (t : Option Contents). stored_image t blocks') same ∙ (ap (λ (f : Region → ℕ). stored_image content f) sizes ∙ opened_back (old name) redo content blocks opened)

    by_name : (t : Bool) → bytes_eq n name ≡ t → (if t then stored_image content' blocks' else mid n) ≡ old n
    by_name true is = there ∙ ap old (sym ((bytes_eq-Decides n name).0 is))
    by_name false is = outside n is

pub given_same : (redo : Option (Bor (List ℕ))) → is_some (option_map (λ (s : Bor (List ℕ)). s.now) redo) ≡ is_some redo
given_same None = refl
given_same (Some name) = refl
