-- A repair that ends with 0, and the check of what it leaves.
use Rattle.std.proofs.Common.{◌≡◌, ◌≤◌, ℕ, List, [], ◌∷◌, Bool, true, false, not, cond, Option, Some, None, Result, Ok, Err, IfSome, IfOk, ◌⊎◌, inl, inr, refl, sym, ◌∙◌, ap, subst, arith}
use Rattle.std.specs.Prelude.{nat_lt, slice_index, if◌then◌else◌, ◌==◌}
use Rattle.std.proofs.lemmas.Bool.Decides.{nat_tests}
use Rattle.std.specs.List.{list_all, list_any}
use Rattle.byte_fields.specs.Zeros.{zeros}
use Rattle.blk_device.specs.Contents.{Contents}
use Rattle.blk_device.specs.declared.device.Region.{Region}
use Rattle.blk_device.specs.declared.device.Region.TheVariants.{Image, Redo}
use Rattle.fs_model.specs.declared.entry.Entry.{Entry}
use Rattle.fs_model.specs.declared.entry.Entry.TheVariants as entries
use Rattle.fs_model.specs.declared.verdict.Verdict.TheVariants as verdicts
use Rattle.geom.specs.Layout.{layout_of}
use Rattle.image_hosts.specs.Stored.{Stored, HoldsRedo, opened, redo_held, stored_image, stored_redo, stored_with}
use Rattle.quiet_repair.specs.Sound.{IsSoundDevice, LeavesSound, is_good_entry}
use Rattle.quiet_repair.specs.declared.repair.Repair.{Repair}
use Rattle.quiet_repair.specs.declared.repair.Repair.TheVariants.{Refused, Ended}
use Rattle.redo_area.specs.Area.{is_open}
use Rattle.redo_area.specs.declared.TheConstants.{REDO_BLOCKS}
use Rattle.sblock.specs.Lists.{Each}
use Rattle.xscrub.specs.Command.{Job, check_of, repair_of, make_of, unbuilt, usage}
use Rattle.xscrub.specs.Ending.{EndsSound, IsToldOf, stored_outcome}
use Rattle.xscrub.specs.Image.{behind_redo, checked_outcome, image_outcome, redo_refusal}
use Rattle.xscrub.specs.Judged.{IsDeviceJudged, IsJudgedClean, is_clean, judgement_outcome}
use Rattle.xscrub.specs.Outcome.{Outcome, is_calm, is_given_up, outcome_of, repaired_status}
use Rattle.xscrub.specs.Repairs.{ChecksClean, IsClean, LeavesClean, was_sound}
use Rattle.xscrub.specs.declared.ending.Finding.{Finding}
use Rattle.xscrub.specs.declared.ending.Status.TheVariants as statuses
use Rattle.xscrub.specs.declared.judging.JudgeFault.{JudgeFault}
use Rattle.xscrub.specs.declared.judging.Judgement.{Judgement}
use Rattle.xscrub.specs.declared.judging.Judgement.TheVariants as judgements
use Rattle.xscrub.specs.declared.last_lines.RedoRefusal.{RedoRefusal}
use Rattle.xscrub.specs.declared.last_lines.RedoRefusal.TheVariants.{Short, Waiting}
use Rattle.xscrub.proofs.EndingLemmas.{status_by}
use Rattle.xscrub.proofs.JudgedLemmas.{good_superblock}
use Rattle.xscrub.proofs.RepairLemmas.{image_there}

lie : false ≡ true → ⊥
lie e = cc

-- ---- of a finding

-- a sick one doesn't end with 0
sick_not_clean : (journal : List Entry) → repaired_status true journal ≡ statuses.Clean → ⊥
sick_not_clean journal e = either (list_any is_given_up journal) e
  where
    either : (b : Bool) → cond b statuses.GaveUp statuses.Faulty ≡ statuses.Clean → ⊥
    either true e = cc
    either false e = cc

-- ---- of the check behind a repair

clean_judged : (found : Judgement) → is_clean found ≡ true → (judgement_outcome found).status ≡ statuses.Clean
clean_judged (judgements.Judged journal) is = ap (λ (b : Bool). status_by b (list_any is_given_up journal.items)) is
clean_judged (judgements.Full journal) is = absurd (lie is)
clean_judged (judgements.Refused line) is = absurd (lie is)

-- a repair is called sick where that check isn't clean
pub clean_by : (found : Judgement) (journal : List Entry) → repaired_status (not (is_clean found)) journal ≡ statuses.Clean → (judgement_outcome found).status ≡ statuses.Clean
clean_by found journal e = by_test (is_clean found) refl
  where
    by_test : (b : Bool) → is_clean found ≡ b → (judgement_outcome found).status ≡ statuses.Clean
    by_test true is = clean_judged found is
    by_test false is = absurd (sick_not_clean journal (ap (λ (b : Bool). repaired_status (not b) journal) (sym is) ∙ e))

judged_checks : (content : Option Contents) (blocks : Region → ℕ) (judged : Result Judgement JudgeFault) → IfOk judged (IsDeviceJudged true content blocks) → IsJudgedClean judged → IfSome content (ChecksClean blocks)
judged_checks None blocks judged told clean = tt
judged_checks (Some m) blocks (Ok found) told clean = ap (λ (o : Outcome). o.status) (sym told) ∙ clean
judged_checks (Some m) blocks (Err fault) told clean = absurd clean

-- the device is as it was before the check
pub judged_leaves : (done : Type 0) (content content' : Option Contents) (blocks blocks' : Region → ℕ) (judged : Result Judgement JudgeFault) → content' ≡ content → blocks' ≡ blocks
    → IfOk judged (IsDeviceJudged true content blocks) → (done → IsJudgedClean judged) → LeavesClean done content' blocks'
judged_leaves done content content' blocks blocks' judged same sizes told clean = λ is.
    subst (λ (c : Option Contents). IfSome c (ChecksClean blocks')) (sym same)
    (subst (λ (f : Region → ℕ). IfSome content (ChecksClean f)) (sym sizes) (judged_checks content blocks judged told (clean is)))

-- ---- of a repair that had nothing to do

pub all_calm : (journal : List Entry) → Each is_good_entry journal → list_all is_calm journal ≡ true
all_calm [] good = refl
all_calm (entries.Verdict g u verdicts.Good ∷ es) good = all_calm es good.1
all_calm (entries.Verdict g u (verdicts.Faulty k) ∷ es) good = absurd (lie good.0)
all_calm (entries.Verdict g u verdicts.Rebuilt ∷ es) good = all_calm es good.1
all_calm (entries.Verdict g u (verdicts.Skipped h v) ∷ es) good = absurd (lie good.0)
all_calm (entries.Verdict g u (verdicts.GaveUp r) ∷ es) good = absurd (lie good.0)
all_calm (e ∷ es) good = all_calm es good.1

abbrev refusal_by : Bool → Bool → Option RedoRefusal
refusal_by short waits = if short then Some Short else (if waits then Some Waiting else None)

at_least : (n most : ℕ) → most ≤ n → nat_lt n most ≡ false
at_least n most h = grind (arith, nat_tests)

no_refusal : (size : ℕ) (m : Contents) → REDO_BLOCKS ≤ size → is_open m ≡ false → redo_refusal size m ≡ None
no_refusal size m long closed = λ i. refusal_by (at_least size REDO_BLOCKS long i) (closed i)

sound_checks : (blocks : Region → ℕ) (journal : List Entry) (m : Contents) → IsSoundDevice blocks journal m → ChecksClean blocks m
sound_checks blocks journal m sound =
    let outcome = good_superblock (blocks Image) (m Image) (m Image 0) refl (layout_of (m Image 0)) sound.superblock refl ∙ ap checked_outcome sound.judged in
    ap (λ (r : Option RedoRefusal). (behind_redo r (image_outcome (blocks Image) (m Image))).status) (no_refusal (blocks Redo) m sound.long sound.closed)
    ∙ (ap (λ (o : Outcome). o.status) outcome ∙ ap (λ (b : Bool). status_by b (list_any is_given_up journal)) (all_calm journal sound.good))

each_sound : (content : Option Contents) (blocks : Region → ℕ) (journal : List Entry) → IfSome content (IsSoundDevice blocks journal) → IfSome content (ChecksClean blocks)
each_sound None blocks journal sound = tt
each_sound (Some m) blocks journal sound = sound_checks blocks journal m sound

pub sound_leaves : (done : Type 0) (content : Option Contents) (blocks : Region → ℕ) (repair : Repair) → was_sound repair ≡ true → LeavesSound content blocks repair → LeavesClean done content blocks
sound_leaves done content blocks (Refused why) is leaves = absurd (lie is)
sound_leaves done content blocks (Ended repaired) is leaves = λ _. each_sound content blocks repaired.journal.items (leaves is)

-- ---- of what is stored

both_refuse : (short a b : Bool) → (short ≡ false → a ≡ b) → refusal_by short a ≡ refusal_by short b
both_refuse true a b same = refl
both_refuse false a b same = ap (refusal_by false) (same refl)

some_block : (size : ℕ) → nat_lt size REDO_BLOCKS ≡ false → nat_lt 0 size ≡ true
some_block size long = grind (arith, nat_tests)

-- the first block of a redo file that is long enough is that of the redo region
same_gate : (size : ℕ) (file : Stored) (m : Contents) → nat_lt size REDO_BLOCKS ≡ false → is_open (opened file (redo_held size (m Redo))) ≡ is_open m
same_gate size file m long = ap (λ (b : Bool). slice_index (if b then m Redo 0 else zeros) 0 == 1) (some_block size long)

same_refusal : (size : ℕ) (file : Stored) (m : Contents) → redo_refusal size (opened file (redo_held size (m Redo))) ≡ redo_refusal size m
same_refusal size file m = both_refuse (nat_lt size REDO_BLOCKS) (is_open (opened file (redo_held size (m Redo)))) (is_open m) (same_gate size file m)

-- a stored image and redo file are checked clean
abbrev AreClean : Option Stored → Option Stored → Type 0
AreClean file redo = IfSome (stored_outcome true file redo) (λ o. o.status ≡ statuses.Clean)

no_redo_file : (file : Option Stored) → AreClean file None
no_redo_file None = tt
no_redo_file (Some f) = tt

both_clean : (content : Option Contents) (blocks : Region → ℕ) → IfSome content (ChecksClean blocks) → AreClean (stored_image content blocks) (stored_redo content blocks)
both_clean None blocks clean = tt
both_clean (Some m) blocks clean =
    ap (λ (r : Option RedoRefusal). (behind_redo r (image_outcome (blocks Image) (m Image))).status) (same_refusal (blocks Redo) (record { size = blocks Image; at = m Image }) m) ∙ clean

pub stored_sound : (done : Type 0) (name redo : List ℕ) (content : Option Contents) (blocks : Region → ℕ) (mid stored' redos redos' : List ℕ → Option Stored)
    → ((n : List ℕ) → stored' n ≡ stored_with name (stored_image content blocks) mid n) → HoldsRedo redo (stored_redo content blocks) redos redos' → LeavesClean done content blocks
    → done → AreClean (stored' name) (redos' redo)
stored_sound done name redo content blocks mid stored' redos redos' home holds leaves is =
    subst (λ (f : Option Stored). AreClean f (redos' redo)) (sym (image_there name (stored_image content blocks) mid stored' home)) (by_redo holds.one)
  where
    by_redo : (redos' redo ≡ stored_redo content blocks) ⊎ (redos' redo ≡ None) → AreClean (stored_image content blocks) (redos' redo)
    by_redo (inl held) = subst (λ (r : Option Stored). AreClean (stored_image content blocks) r) (sym held) (both_clean content blocks (leaves is))
    by_redo (inr none) = subst (λ (r : Option Stored). AreClean (stored_image content blocks) r) (sym none) (no_redo_file (stored_image content blocks))

-- ---- and how it is told

failed_not_clean : statuses.Failed ≡ statuses.Clean → ⊥
failed_not_clean e = cc

pub memory_not_clean : statuses.Memory ≡ statuses.Clean → ⊥
memory_not_clean e = cc

found_clean : (found told : Outcome) (k k' : ℕ) → IsToldOf found k k' told → told.status ≡ statuses.Clean → found.status ≡ statuses.Clean
found_clean found told k k' (inl whole) e = ap (λ (o : Outcome). o.status) (sym whole.0) ∙ e
found_clean found told k k' (inr (inl failed)) e = absurd (failed_not_clean (ap (λ (o : Outcome). o.status) (sym failed.0) ∙ e))
found_clean found told k k' (inr (inr memory)) e = absurd (memory_not_clean (sym memory.0 ∙ e))

pub told_sound : (job : Job) (finding : Finding) (told : Outcome) (k k' : ℕ) (stored redos stored' redos' : List ℕ → Option Stored) → EndsSound job (IsClean finding) stored redos → IsToldOf (outcome_of finding) k k' told
    → ((n : List ℕ) → stored' n ≡ stored n) → ((n : List ℕ) → redos' n ≡ redos n) → EndsSound job (told.status ≡ statuses.Clean) stored' redos'
told_sound usage finding told k k' stored redos stored' redos' sound ends ss rs = tt
told_sound unbuilt finding told k k' stored redos stored' redos' sound ends ss rs = tt
told_sound (check_of name redo) finding told k k' stored redos stored' redos' sound ends ss rs = tt
told_sound (repair_of name redo plan turns) finding told k k' stored redos stored' redos' sound ends ss rs = λ clean.
    subst (λ (f : Option Stored). AreClean f (redos' redo)) (sym (ss name))
    (subst (λ (r : Option Stored). AreClean (stored name) r) (sym (rs redo)) (sound (found_clean (outcome_of finding) told k k' ends clean)))
told_sound (make_of name) finding told k k' stored redos stored' redos' sound ends ss rs = tt

-- no job but a repair, or one that isn't clean, leaves anything
pub unclean_sound : (job : Job) (done : Type 0) (stored redos : List ℕ → Option Stored) → (done → ⊥) → EndsSound job done stored redos
unclean_sound usage done stored redos not = tt
unclean_sound unbuilt done stored redos not = tt
unclean_sound (check_of name redo) done stored redos not = tt
unclean_sound (repair_of name redo plan turns) done stored redos not = λ is. absurd (not is)
unclean_sound (make_of name) done stored redos not = tt
