-- A journal that was told, and the line behind it.
use Rattle.std.proofs.Common.{◌≡◌, ◌<◌, ◌≤◌, ℕ, List, [], ◌∷◌, ◌++◌, Bool, true, false, cond, IfSome, length, take, drop, Option, Some, None, is_some, ◌⊎◌, inl, inr, refl, sym, ◌∙◌, ap, subst, append_assoc, append-nil, arith}
use Rattle.std.proofs.lemmas.List.{take-append-drop}
use Rattle.blk_device.specs.Causes.{Rose}
use Rattle.blk_device.specs.Taken.{Takes, TakesFront, IsFront}
use Rattle.blk_device.proofs.TakenLemmas.{then, whole_front, takes_nothing}
use Rattle.xscrub.proofs.ShownLemmas.{told_nothing}
use Rattle.std.specs.List.{list_all, list_any}
use Rattle.std.specs.Prelude.{⊤}
use Rattle.xscrub.specs.Ending.{IsShown, IsToldOf, IsFoundBy, Decides, EndsFor, HasOutcomeCause, IsSettled, IsOutcome, IsAsked, IsShort, IsOfImage, IsOfMake, IsWorded, IsImageLine, IsNoRepairLine, IsOfRepair, EndsForRepair, IsToldOrShort, EndsByWords, HasUnitsOf}
use Rattle.xscrub.specs.Command.{Job, check_of, repair_of, make_of, unbuilt, usage}
use Rattle.image_hosts.specs.Stored.{Request}
use Rattle.fs_state.specs.declared.plan.Plan.{Plan}
use Rattle.xscrub.specs.Repairs.{FindsSession}
use Rattle.xscrub.specs.Units.{HasAllUnits, HasFirstUnits, HasRepairUnits, HasSession, HasUnits}
use Rattle.xscrub.proofs.SessionLemmas.{cut_session, none_cut}
use Rattle.xscrub.proofs.UnitLemmas.{no_units, all_are_first, most_are_first}
use Rattle.xscrub.specs.Outcome.{Outcome, code_of, is_calm, is_given_up, is_no_repair, is_refusal, judged_status, judged_outcome, repaired_status, repaired_outcome, filled_outcome, made_outcome, stopped_outcome, ended_outcome, outcome_of}
use Rattle.xscrub.specs.declared.ending.Finding.{Finding}
use Rattle.xscrub.specs.declared.ending.Finding.TheVariants as findings
use Rattle.run_text.specs.Report.{report_of}
use Rattle.xscrub.specs.LastLines.{is_fixed}
use Rattle.xscrub.specs.Shown.{IsLineShown, EndsWith, last_text}
use Rattle.xscrub.specs.declared.ending.Status.{Status}
use Rattle.xscrub.specs.declared.ending.Status.TheVariants as statuses
use Rattle.fs_model.specs.declared.entry.Entry.{Entry}
use Rattle.xscrub.specs.declared.last_lines.LastLine.{LastLine}
use Rattle.xscrub.specs.declared.last_lines.LastLine.TheVariants as lines

-- a journal that was told whole, without a line behind it
pub shown_alone : (journal : List Entry) (f g : ℕ) (a b : Option (List ℕ)) → g ≡ f → Takes (report_of journal) a b → IsShown journal None f g a b
shown_alone journal f g a b calm takes = record {
  later = omega (arith, calm);
  whole = λ _. subst (λ (text : List ℕ). Takes text a b) (sym (append-nil (report_of journal))) takes;
  fronts = (b, (whole_front (report_of journal) a b takes, whole_front [] b b (takes_nothing b b refl)));
}

-- nothing was told
pub shown_none : (journal : List Entry) (f : ℕ) (a : Option (List ℕ)) → journal ≡ [] → IsShown journal None f f a a
shown_none journal f a none = shown_alone journal f f a a refl (subst (λ (js : List Entry). Takes (report_of js) a a) (sym none) (told_nothing a a refl))

-- a journal that was told whole, and a line
pub shown_then : (journal : List Entry) (last : Option LastLine) (f g h : ℕ) (a b c : Option (List ℕ)) → g ≡ f → Takes (report_of journal) a b
    → IsLineShown (last_text last) g h b c → IsShown journal last f h a c
shown_then journal last f g h a b c calm takes line = record {
  later = omega (arith, calm, line.later);
  whole = λ fine. then (report_of journal) (last_text last) a b c takes (line.whole (λ rose. fine (subst (λ (n : ℕ). Rose n h) calm rose)));
  fronts = (b, (whole_front (report_of journal) a b takes, line.front));
}

-- a journal of which only a front was told, and a line
pub shown_some : (journal : List Entry) (last : Option LastLine) (f g h : ℕ) (a b c : Option (List ℕ)) → Rose f g → TakesFront (report_of journal) a b
    → IsLineShown (last_text last) g h b c → f ≤ g → IsShown journal last f h a c
shown_some journal last f g h a b c rose front line le = record {
  later = omega (arith, le, line.later);
  whole = λ fine. absurd (fine (omega (arith, rose, line.later)));
  fronts = (b, (front, line.front));
}

-- a line without a journal
pub shown_line : (journal : List Entry) (last : Option LastLine) (f g : ℕ) (a b : Option (List ℕ)) → journal ≡ [] → IsLineShown (last_text last) f g a b → IsShown journal last f g a b
shown_line journal last f g a b none line =
    shown_then journal last f f g a a b refl (subst (λ (js : List Entry). Takes (report_of js) a a) (sym none) (told_nothing a a refl)) line

-- ---- a journal of units

true_not_false : true ≡ false → ⊥
true_not_false e = cc

no_line : {P : Type 0} (line : LastLine) → Some line ≡ None → P
no_line line e = absurd (clash e)
  where
    clash : {x : LastLine} → Some x ≡ None → ⊥
    clash e = cc

-- two outcomes with the same parts
same_outcome : (told found : Outcome) → told.status ≡ found.status → told.journal ≡ found.journal → told.last ≡ found.last → told ≡ found
same_outcome told found s j l = λ i. record { status = s i; journal = j i; last = l i }

-- a run that ends with a line, once its journal was told
pub told_line : (status : Status) (journal : List Entry) (last : LastLine) (told : Outcome) (f g : ℕ)
    → EndsWith status journal last told.status told.journal told.last → IsToldOf (stopped_outcome status journal last) f g told
told_line status journal last told f g ends = by_line ends.1
  where
    by_line : ((told.status ≡ status) × (told.last ≡ Some last)) ⊎ ((told.status ≡ statuses.Memory) × (told.last ≡ Some lines.Memory) × (is_fixed last ≡ false))
        → IsToldOf (stopped_outcome status journal last) f g told
    by_line (inl whole) = inl (same_outcome told (stopped_outcome status journal last) whole.0 ends.0 whole.1, λ none. no_line last none)
    by_line (inr short) = inr (inr (short.0, short.1, ([], sym ends.0 ∙ sym (append-nil told.journal)), λ none. short.2))

not_empty : (found : Outcome) (journal : List Entry) (n : ℕ) → found.journal ≡ journal → n < length journal → found.journal ≡ [] → ⊥
not_empty found journal n of lt none = let e : length journal ≡ 0 = ap length (sym of ∙ none) in omega (arith, lt, e)

-- a sink that failed in the journal
pub told_failed : (found told : Outcome) (journal : List Entry) (f g h : ℕ) → found.journal ≡ journal → 0 < length journal → Rose f g → g ≤ h
    → EndsWith statuses.Failed journal lines.HostFailed told.status told.journal told.last → IsToldOf found f h told
told_failed found told journal f g h of some rose le ends =
    inr (inl (by_line ends.1, omega (arith, rose, le), not_empty found journal 0 of some))
  where
    by_line : ((told.status ≡ statuses.Failed) × (told.last ≡ Some lines.HostFailed)) ⊎ ((told.status ≡ statuses.Memory) × (told.last ≡ Some lines.Memory) × (true ≡ false))
        → told ≡ stopped_outcome statuses.Failed found.journal lines.HostFailed
    by_line (inl whole) = same_outcome told (stopped_outcome statuses.Failed found.journal lines.HostFailed) whole.0 (ends.0 ∙ sym of) whole.1
    by_line (inr none) = absurd (true_not_false none.2)

-- a journal for which there was no more memory
pub told_memory : (found told : Outcome) (journal cut : List Entry) (n f g : ℕ) → found.journal ≡ journal → n < length journal → cut ≡ take n journal
    → EndsWith statuses.Memory cut lines.Memory told.status told.journal told.last → IsToldOf found f g told
told_memory found told journal cut n f g of lt is ends =
    inr (inr (stopped ends.1, last ends.1, (drop n journal, of ∙ sym (ap (λ (js : List Entry). js ++ drop n journal) (ends.0 ∙ is) ∙ take-append-drop n journal)), λ none. absurd (not_empty found journal n of lt none)))
  where
    stopped : ((told.status ≡ statuses.Memory) × (told.last ≡ Some lines.Memory)) ⊎ ((told.status ≡ statuses.Memory) × (told.last ≡ Some lines.Memory) × (true ≡ false)) → told.status ≡ statuses.Memory
    stopped (inl whole) = whole.0
    stopped (inr none) = none.0

    last : ((told.status ≡ statuses.Memory) × (told.last ≡ Some lines.Memory)) ⊎ ((told.status ≡ statuses.Memory) × (told.last ≡ Some lines.Memory) × (true ≡ false)) → told.last ≡ Some lines.Memory
    last (inl whole) = whole.1
    last (inr none) = none.1

-- ---- from what was found to what is told

-- the cause of a status, along the status
at_status : (told : Outcome) (s : Status) (h h' d d' k k' : ℕ) → told.status ≡ s → EndsFor s told h h' d d' k k' → EndsFor told.status told h h' d d' k k'
at_status told s h h' d d' k k' is ends = subst (λ (t : Status). EndsFor t told h h' d d' k k') (sym is) ends

both_ways : (b : Bool) → (b ≡ true) ⊎ (b ≡ false)
both_ways true = inl refl
both_ways false = inr refl

-- the status of a journal, by both of its tests
abbrev pub status_by : Bool → Bool → Status
status_by calm given_up = cond calm statuses.Clean (cond given_up statuses.GaveUp statuses.Faulty)

judged_ends : (journal : List Entry) (h h' d d' k k' : ℕ) → h' ≡ h → d' ≡ d → k' ≡ k → EndsFor (judged_status journal) (judged_outcome journal) h h' d d' k k'
judged_ends journal h h' d d' k k' i j l = by_calm (both_ways (list_all is_calm journal))
  where
    by_given_up : list_all is_calm journal ≡ false → (list_any is_given_up journal ≡ true) ⊎ (list_any is_given_up journal ≡ false) → EndsFor (judged_status journal) (judged_outcome journal) h h' d d' k k'
    by_given_up loud (inl given) =
        at_status (judged_outcome journal) statuses.GaveUp h h' d d' k k'
        (ap (λ (b : Bool). status_by b (list_any is_given_up journal)) loud ∙ ap (λ (b : Bool). status_by false b) given) (given, refl, i, j, l)
    by_given_up loud (inr none) =
        at_status (judged_outcome journal) statuses.Faulty h h' d d' k k'
        (ap (λ (b : Bool). status_by b (list_any is_given_up journal)) loud ∙ ap (λ (b : Bool). status_by false b) none) (loud, none, refl, i, j, l)

    by_calm : (list_all is_calm journal ≡ true) ⊎ (list_all is_calm journal ≡ false) → EndsFor (judged_status journal) (judged_outcome journal) h h' d d' k k'
    by_calm (inl calm) =
        at_status (judged_outcome journal) statuses.Clean h h' d d' k k' (ap (λ (b : Bool). status_by b (list_any is_given_up journal)) calm) (calm, refl, i, j, l)
    by_calm (inr loud) = by_given_up loud (both_ways (list_any is_given_up journal))

-- a finding that a check or the making of an image may have, and words alone
abbrev IsUnrepaired : Finding → Type 0
IsUnrepaired (findings.Repaired journal sick) = ⊥
IsUnrepaired finding = ⊤

found_ends : (finding : Finding) (h h' d d' k k' : ℕ) → IsUnrepaired finding → IsFoundBy finding h h' d d' → ((outcome_of finding).last ≡ None → k' ≡ k) → EndsFor (outcome_of finding).status (outcome_of finding) h h' d d' k k'
found_ends (findings.Judged journal) h h' d d' k k' un cause calm = judged_ends journal.items h h' d d' k k' cause.0 cause.1 (calm refl)
found_ends (findings.Repaired journal sick) h h' d d' k k' un cause calm = absurd un
found_ends (findings.Full journal) h h' d d' k k' un cause calm = refl
found_ends (findings.Refused line) h h' d d' k k' un cause calm = (line, refl)
found_ends findings.Made h h' d d' k k' un cause calm = (refl, refl, cause.0, cause.1, calm refl)
found_ends findings.Usage h h' d d' k k' un cause calm = refl
found_ends (findings.DeviceFailed journal) h h' d d' k k' un cause calm = inl (refl, cause)
found_ends findings.HostFailed h h' d d' k k' un cause calm = inr (refl, inl cause)
found_ends (findings.Memory journal) h h' d d' k k' un cause calm = refl

quiet_cause : (finding : Finding) (told : Outcome) (h h' d d' k k' : ℕ) → IsUnrepaired finding → IsFoundBy finding h h' d d' → IsToldOf (outcome_of finding) k k' told → EndsFor told.status told h h' d d' k k'
quiet_cause finding told h h' d d' k k' un cause (inl same) =
    subst (λ (o : Outcome). EndsFor o.status o h h' d d' k k') (sym same.0) (found_ends finding h h' d d' k k' un cause same.1)
quiet_cause finding told h h' d d' k k' un cause (inr (inl failed)) =
    subst (λ (o : Outcome). EndsFor o.status o h h' d d' k k') (sym failed.0) (inr (refl, inr failed.1))
quiet_cause finding told h h' d d' k k' un cause (inr (inr memory)) = at_status told statuses.Memory h h' d d' k k' memory.0 memory.1

-- ---- of a repair

-- what is said of a status of any run is enough for a repair
for_repair : (s : Status) (told : Outcome) (h h' d d' k k' : ℕ) → EndsFor s told h h' d d' k k' → EndsForRepair s told h h' d d' k k'
for_repair statuses.Clean told h h' d d' k k' ends = ends
for_repair statuses.Faulty told h h' d d' k k' ends = (ends.1, ends.2, ends.3, ends.4, ends.5)
for_repair statuses.Usage told h h' d d' k k' ends = ends
for_repair statuses.Refused told h h' d d' k k' ends = ends
for_repair statuses.Failed told h h' d d' k k' ends = ends
for_repair statuses.GaveUp told h h' d d' k k' ends = ends
for_repair statuses.Full told h h' d d' k k' ends = ends
for_repair statuses.Memory told h h' d d' k k' ends = ends

at_status_repair : (told : Outcome) (s : Status) (h h' d d' k k' : ℕ) → told.status ≡ s → EndsForRepair s told h h' d d' k k' → EndsForRepair told.status told h h' d d' k k'
at_status_repair told s h h' d d' k k' is ends = subst (λ (t : Status). EndsForRepair t told h h' d d' k k') (sym is) ends

repaired_ends : (journal : List Entry) (sick : Bool) (h h' d d' k k' : ℕ) → h' ≡ h → d' ≡ d → k' ≡ k → EndsForRepair (repaired_status sick journal) (repaired_outcome sick journal) h h' d d' k k'
repaired_ends journal false h h' d d' k k' i j l = for_repair (judged_status journal) (judged_outcome journal) h h' d d' k k' (judged_ends journal h h' d d' k k' i j l)
repaired_ends journal true h h' d d' k k' i j l = by_given_up (both_ways (list_any is_given_up journal))
  where
    by_given_up : (list_any is_given_up journal ≡ true) ⊎ (list_any is_given_up journal ≡ false) → EndsForRepair (repaired_status true journal) (repaired_outcome true journal) h h' d d' k k'
    by_given_up (inl given) =
        at_status_repair (repaired_outcome true journal) statuses.GaveUp h h' d d' k k' (ap (λ (b : Bool). cond b statuses.GaveUp statuses.Faulty) given) (given, refl, i, j, l)
    by_given_up (inr none) =
        at_status_repair (repaired_outcome true journal) statuses.Faulty h h' d d' k k' (ap (λ (b : Bool). cond b statuses.GaveUp statuses.Faulty) none) (none, refl, i, j, l)

repair_found_ends : (finding : Finding) (h h' d d' k k' : ℕ) → IsFoundBy finding h h' d d' → ((outcome_of finding).last ≡ None → k' ≡ k) → EndsForRepair (outcome_of finding).status (outcome_of finding) h h' d d' k k'
repair_found_ends (findings.Judged journal) h h' d d' k k' cause calm =
    for_repair (judged_status journal.items) (judged_outcome journal.items) h h' d d' k k' (judged_ends journal.items h h' d d' k k' cause.0 cause.1 (calm refl))
repair_found_ends (findings.Repaired journal sick) h h' d d' k k' cause calm = repaired_ends journal.items sick h h' d d' k k' cause.0 cause.1 (calm refl)
repair_found_ends (findings.Full journal) h h' d d' k k' cause calm = refl
repair_found_ends (findings.Refused line) h h' d d' k k' cause calm = (line, refl)
repair_found_ends findings.Made h h' d d' k k' cause calm = (refl, refl, cause.0, cause.1, calm refl)
repair_found_ends findings.Usage h h' d d' k k' cause calm = refl
repair_found_ends (findings.DeviceFailed journal) h h' d d' k k' cause calm = inl (refl, cause)
repair_found_ends findings.HostFailed h h' d d' k k' cause calm = inr (refl, inl cause)
repair_found_ends (findings.Memory journal) h h' d d' k k' cause calm = refl

repair_cause : (finding : Finding) (told : Outcome) (h h' d d' k k' : ℕ) → IsFoundBy finding h h' d d' → IsToldOf (outcome_of finding) k k' told → EndsForRepair told.status told h h' d d' k k'
repair_cause finding told h h' d d' k k' cause (inl same) =
    subst (λ (o : Outcome). EndsForRepair o.status o h h' d d' k k') (sym same.0) (repair_found_ends finding h h' d d' k k' cause same.1)
repair_cause finding told h h' d d' k k' cause (inr (inl failed)) =
    subst (λ (o : Outcome). EndsForRepair o.status o h h' d d' k k') (sym failed.0) (inr (refl, inr failed.1))
repair_cause finding told h h' d d' k k' cause (inr (inr memory)) = at_status_repair told statuses.Memory h h' d d' k k' memory.0 memory.1

image_unrepaired : (given : Bool) (finding : Finding) → IsOfImage given finding → IsUnrepaired finding
image_unrepaired given (findings.Judged journal) of = tt
image_unrepaired given (findings.Repaired journal sick) of = of
image_unrepaired given (findings.Full journal) of = tt
image_unrepaired given (findings.Refused line) of = tt
image_unrepaired given findings.Made of = tt
image_unrepaired given findings.Usage of = tt
image_unrepaired given (findings.DeviceFailed journal) of = tt
image_unrepaired given findings.HostFailed of = tt
image_unrepaired given (findings.Memory journal) of = tt

make_unrepaired : (finding : Finding) → IsOfMake finding → IsUnrepaired finding
make_unrepaired (findings.Judged journal) of = tt
make_unrepaired (findings.Repaired journal sick) of = of
make_unrepaired (findings.Full journal) of = tt
make_unrepaired (findings.Refused line) of = tt
make_unrepaired findings.Made of = tt
make_unrepaired findings.Usage of = tt
make_unrepaired (findings.DeviceFailed journal) of = tt
make_unrepaired findings.HostFailed of = tt
make_unrepaired (findings.Memory journal) of = tt

short_unrepaired : (finding : Finding) → IsShort finding → IsUnrepaired finding
short_unrepaired (findings.Judged journal) is = tt
short_unrepaired (findings.Repaired journal sick) is = is
short_unrepaired (findings.Full journal) is = tt
short_unrepaired (findings.Refused line) is = tt
short_unrepaired findings.Made is = tt
short_unrepaired findings.Usage is = tt
short_unrepaired (findings.DeviceFailed journal) is = tt
short_unrepaired findings.HostFailed is = tt
short_unrepaired (findings.Memory journal) is = tt

words_unrepaired : (finding wanted : Finding) → IsUnrepaired wanted → (finding ≡ wanted) ⊎ IsShort finding → IsUnrepaired finding
words_unrepaired finding wanted un (inl same) = subst IsUnrepaired (sym same) un
words_unrepaired finding wanted un (inr short) = short_unrepaired finding short

pub told_cause : (job : Job) (finding : Finding) (told : Outcome) (h h' d d' k k' : ℕ) → IsWorded job finding → IsFoundBy finding h h' d d' → IsToldOf (outcome_of finding) k k' told → HasOutcomeCause job told h h' d d' k k'
told_cause usage finding told h h' d d' k k' worded cause ends = quiet_cause finding told h h' d d' k k' (words_unrepaired finding findings.Usage tt worded) cause ends
told_cause unbuilt finding told h h' d d' k k' worded cause ends = quiet_cause finding told h h' d d' k k' (words_unrepaired finding (findings.Refused lines.Unbuilt) tt worded) cause ends
told_cause (check_of name redo) finding told h h' d d' k k' worded cause ends = quiet_cause finding told h h' d d' k k' (image_unrepaired (is_some redo) finding worded) cause ends
told_cause (repair_of name redo plan turns) finding told h h' d d' k k' worded cause ends = repair_cause finding told h h' d d' k k' cause ends
told_cause (make_of name) finding told h h' d d' k k' worded cause ends = quiet_cause finding told h h' d d' k k' (make_unrepaired finding worded) cause ends

-- a stopped run isn't settled
unsettled : (s t : Status) → s ≡ t → (IsSettled t → ⊥) → {P : Type 0} → IsSettled s → P
unsettled s t is stops settled = absurd (stops (subst IsSettled is settled))

whole_outcome : (told o : Outcome) → told ≡ o → IsOutcome told o
whole_outcome told o same = record { front = ([], ap (λ (q : Outcome). q.journal) (sym same) ∙ sym (append-nil told.journal)); whole = λ _. same }

cut_outcome : (told o : Outcome) (s : Status) → told.status ≡ s → (IsSettled s → ⊥) → IsFront told.journal o.journal → IsOutcome told o
cut_outcome told o s is stops front = record { front = front; whole = unsettled told.status s is stops }

-- what is told of a finding that nothing stopped
told_same : (told found o : Outcome) (k k' : ℕ) → found ≡ o → IsToldOf found k k' told → IsOutcome told o
told_same told found o k k' same (inl whole) = whole_outcome told o (whole.0 ∙ same)
told_same told found o k k' same (inr (inl failed)) =
    cut_outcome told o statuses.Failed (ap (λ (q : Outcome). q.status) failed.0) (λ h. h)
    ([], ap (λ (q : Outcome). q.journal) (sym same) ∙ ap (λ (q : Outcome). q.journal) (sym failed.0) ∙ sym (append-nil told.journal))
told_same told found o k k' same (inr (inr memory)) =
    cut_outcome told o statuses.Memory memory.0 (λ h. h) (memory.2.0, ap (λ (q : Outcome). q.journal) (sym same) ∙ memory.2.1)

front_on : (xs ys zs : List Entry) → IsFront xs ys → IsFront ys zs → IsFront xs zs
front_on xs ys zs first second = (first.0 ++ second.0, second.1 ∙ (ap (λ (js : List Entry). js ++ second.0) first.1 ∙ append_assoc xs first.0 second.0))

-- what is told of a run that was stopped
told_stop : (told o : Outcome) (s : Status) (journal : List Entry) (line : LastLine) (k k' : ℕ) → (IsSettled s → ⊥) → IsFront journal o.journal → IsToldOf (stopped_outcome s journal line) k k' told → IsOutcome told o
told_stop told o s journal line k k' stops front (inl whole) =
    cut_outcome told o s (ap (λ (q : Outcome). q.status) whole.0) stops (subst (λ (js : List Entry). IsFront js o.journal) (ap (λ (q : Outcome). q.journal) (sym whole.0)) front)
told_stop told o s journal line k k' stops front (inr (inl failed)) =
    cut_outcome told o statuses.Failed (ap (λ (q : Outcome). q.status) failed.0) (λ h. h) (subst (λ (js : List Entry). IsFront js o.journal) (ap (λ (q : Outcome). q.journal) (sym failed.0)) front)
told_stop told o s journal line k k' stops front (inr (inr memory)) =
    cut_outcome told o statuses.Memory memory.0 (λ h. h) (front_on told.journal journal o.journal memory.2 front)

pub told_decided : (decided : Option Outcome) (finding : Finding) (told : Outcome) (k k' : ℕ) → Decides decided finding → IsToldOf (outcome_of finding) k k' told → IfSome decided (IsOutcome told)
told_decided None finding told k k' decides ends = tt
told_decided (Some o) (findings.Judged journal) told k k' decides ends = told_same told (judged_outcome journal.items) o k k' decides ends
told_decided (Some o) (findings.Repaired journal sick) told k k' decides ends = told_same told (repaired_outcome sick journal.items) o k k' decides ends
told_decided (Some o) (findings.Full journal) told k k' decides ends = told_same told (filled_outcome journal.items) o k k' decides ends
told_decided (Some o) (findings.Refused line) told k k' decides ends = told_same told (ended_outcome statuses.Refused line) o k k' decides ends
told_decided (Some o) findings.Made told k k' decides ends = told_same told made_outcome o k k' decides ends
told_decided (Some o) findings.Usage told k k' decides ends = told_same told (ended_outcome statuses.Usage lines.Usage) o k k' decides ends
told_decided (Some o) (findings.DeviceFailed journal) told k k' decides ends = told_stop told o statuses.Failed journal.items lines.DeviceFailed k k' (λ h. h) decides ends
told_decided (Some o) findings.HostFailed told k k' decides ends = told_stop told o statuses.Failed [] lines.HostFailed k k' (λ h. h) (o.journal, refl) ends
told_decided (Some o) (findings.Memory journal) told k k' decides ends = told_stop told o statuses.Memory journal.items lines.Memory k k' (λ h. h) decides ends

-- where memory was short as a device was opened, that is told
told_short : (told : Outcome) (finding : Finding) (k k' : ℕ) → IsShort finding → IsToldOf (outcome_of finding) k k' told → told.status ≡ statuses.Memory
told_short told (findings.Judged journal) k k' is ends = absurd is
told_short told (findings.Repaired journal sick) k k' is ends = absurd is
told_short told (findings.Full journal) k k' is ends = absurd is
told_short told (findings.Refused line) k k' is ends = absurd is
told_short told findings.Made k k' is ends = absurd is
told_short told findings.Usage k k' is ends = absurd is
told_short told (findings.DeviceFailed journal) k k' is ends = absurd is
told_short told findings.HostFailed k k' is ends = absurd is
told_short told (findings.Memory journal) k k' is (inl whole) = ap (λ (q : Outcome). q.status) whole.0
told_short told (findings.Memory journal) k k' is (inr (inl failed)) = absurd (failed.2 is)
told_short told (findings.Memory journal) k k' is (inr (inr memory)) = memory.0

pub asked_so : (command : Job) (told : Outcome) (finding : Finding) (k k' : ℕ) (a b c : List Request) → IsToldOf (outcome_of finding) k k' told → c ≡ b
    → IsAsked command (IsShort finding) a b → IsAsked command (told.status ≡ statuses.Memory) a c
asked_so command told finding k k' a b c ends same (inl short) = inl (told_short told finding k k' short.0 ends, same ∙ short.1)
asked_so command told finding k k' a b c ends same (inr whole) = inr (same ∙ whole)

-- ---- what the words alone decide

nothing : (xs rest : List Entry) → [] ≡ xs ++ rest → xs ≡ []
nothing [] rest e = refl
nothing (x ∷ xs) rest e = cc

-- a run that was stopped, with nothing to tell
pub told_none : (found told : Outcome) (k k' : ℕ) → found.journal ≡ [] → (IsSettled found.status → ⊥) → IsToldOf found k k' told → (told.journal ≡ []) × (IsSettled told.status → ⊥)
told_none found told k k' none stops (inl whole) =
    subst (λ (o : Outcome). (o.journal ≡ []) × (IsSettled o.status → ⊥)) (sym whole.0) (none, stops)
told_none found told k k' none stops (inr (inl failed)) = absurd (failed.2 none)
told_none found told k k' none stops (inr (inr memory)) =
    (nothing told.journal memory.2.0 (sym none ∙ memory.2.1), λ settled. subst IsSettled memory.0 settled)

-- a line without a number is told as it is
told_fixed : (told : Outcome) (s : Status) (line : LastLine) (k k' : ℕ) → is_fixed line ≡ true → IsToldOf (ended_outcome s line) k k' told → told ≡ ended_outcome s line
told_fixed told s line k k' fixed (inl whole) = whole.0
told_fixed told s line k k' fixed (inr (inl failed)) = absurd (failed.2 refl)
told_fixed told s line k k' fixed (inr (inr memory)) = let loose : is_fixed line ≡ false = memory.3 refl in absurd (true_not_false (sym fixed ∙ loose))

failed_not_refused : statuses.Failed ≡ statuses.Refused → ⊥
failed_not_refused e = cc

memory_not_refused : statuses.Memory ≡ statuses.Refused → ⊥
memory_not_refused e = cc

full_not_refused : statuses.Full ≡ statuses.Refused → ⊥
full_not_refused e = cc

judged_not_usage : (journal : List Entry) → judged_status journal ≡ statuses.Usage → ⊥
judged_not_usage journal e = either (list_all is_calm journal) (list_any is_given_up journal) e
  where
    either : (a b : Bool) → status_by a b ≡ statuses.Usage → ⊥
    either true b e = cc
    either false true e = cc
    either false false e = cc

found_not_usage : (given : Bool) (finding : Finding) → IsOfImage given finding → (outcome_of finding).status ≡ statuses.Usage → ⊥
found_not_usage given (findings.Judged journal) of e = judged_not_usage journal.items e
found_not_usage given (findings.Repaired journal sick) of e = of
found_not_usage given (findings.Full journal) of e = cc
found_not_usage given (findings.Refused line) of e = cc
found_not_usage given findings.Made of e = of
found_not_usage given findings.Usage of e = of
found_not_usage given (findings.DeviceFailed journal) of e = cc
found_not_usage given findings.HostFailed of e = cc
found_not_usage given (findings.Memory journal) of e = cc

not_unbuilt : (given : Bool) (line : LastLine) → is_refusal given line ≡ true → Some line ≡ Some lines.Unbuilt → ⊥
not_unbuilt given line image e = let same : line ≡ lines.Unbuilt = cc in clash (subst (λ (l : LastLine). is_refusal given l ≡ true) same image)
  where
    clash : false ≡ true → ⊥
    clash e = cc

found_not_unbuilt : (given : Bool) (finding : Finding) → IsOfImage given finding → (outcome_of finding).last ≡ Some lines.Unbuilt → ⊥
found_not_unbuilt given (findings.Judged journal) of e = cc
found_not_unbuilt given (findings.Repaired journal sick) of e = of
found_not_unbuilt given (findings.Full journal) of e = cc
found_not_unbuilt given (findings.Refused line) of e = not_unbuilt given line of e
found_not_unbuilt given findings.Made of e = of
found_not_unbuilt given findings.Usage of e = of
found_not_unbuilt given (findings.DeviceFailed journal) of e = cc
found_not_unbuilt given findings.HostFailed of e = cc
found_not_unbuilt given (findings.Memory journal) of e = cc

told_not_usage : (given : Bool) (finding : Finding) (told : Outcome) (k k' : ℕ) → IsOfImage given finding → IsToldOf (outcome_of finding) k k' told → told.status ≡ statuses.Usage → ⊥
told_not_usage given finding told k k' of (inl whole) e = found_not_usage given finding of (ap (λ (q : Outcome). q.status) (sym whole.0) ∙ e)
told_not_usage given finding told k k' of (inr (inl failed)) e = let clash : statuses.Failed ≡ statuses.Usage = ap (λ (q : Outcome). q.status) (sym failed.0) ∙ e in cc
told_not_usage given finding told k k' of (inr (inr memory)) e = let clash : statuses.Memory ≡ statuses.Usage = sym memory.0 ∙ e in cc

told_not_unbuilt : (given : Bool) (finding : Finding) (told : Outcome) (k k' : ℕ) → IsOfImage given finding → IsToldOf (outcome_of finding) k k' told → told.last ≡ Some lines.Unbuilt → ⊥
told_not_unbuilt given finding told k k' of (inl whole) e = found_not_unbuilt given finding of (ap (λ (q : Outcome). q.last) (sym whole.0) ∙ e)
told_not_unbuilt given finding told k k' of (inr (inl failed)) e = let clash : Some lines.HostFailed ≡ Some lines.Unbuilt = ap (λ (q : Outcome). q.last) (sym failed.0) ∙ e in cc
told_not_unbuilt given finding told k k' of (inr (inr memory)) e = let clash : Some lines.Memory ≡ Some lines.Unbuilt = sym memory.1 ∙ e in cc

judged_not_refused : (journal : List Entry) → judged_status journal ≡ statuses.Refused → ⊥
judged_not_refused journal e = either (list_all is_calm journal) (list_any is_given_up journal) e
  where
    either : (a b : Bool) → status_by a b ≡ statuses.Refused → ⊥
    either true b e = cc
    either false true e = cc
    either false false e = cc

found_image : (given : Bool) (finding : Finding) → IsOfImage given finding → (outcome_of finding).status ≡ statuses.Refused → IsImageLine given (outcome_of finding).last
found_image given (findings.Judged journal) of e = absurd (judged_not_refused journal.items e)
found_image given (findings.Repaired journal sick) of e = absurd of
found_image given (findings.Full journal) of e = absurd (full_not_refused e)
found_image given (findings.Refused line) of e = (line, refl, of)
found_image given findings.Made of e = absurd of
found_image given findings.Usage of e = absurd of
found_image given (findings.DeviceFailed journal) of e = absurd (failed_not_refused e)
found_image given findings.HostFailed of e = absurd (failed_not_refused e)
found_image given (findings.Memory journal) of e = absurd (memory_not_refused e)

told_image : (given : Bool) (finding : Finding) (told : Outcome) (k k' : ℕ) → IsOfImage given finding → IsToldOf (outcome_of finding) k k' told → told.status ≡ statuses.Refused → IsImageLine given told.last
told_image given finding told k k' of (inl whole) e =
    subst (λ (o : Outcome). IsImageLine given o.last) (sym whole.0) (found_image given finding of (ap (λ (q : Outcome). q.status) (sym whole.0) ∙ e))
told_image given finding told k k' of (inr (inl failed)) e = absurd (failed_not_refused (ap (λ (q : Outcome). q.status) (sym failed.0) ∙ e))
told_image given finding told k k' of (inr (inr memory)) e = absurd (memory_not_refused (sym memory.0 ∙ e))

-- a finding that there was no memory before the first unit
short_told : (finding : Finding) (told : Outcome) (k k' : ℕ) → IsShort finding → IsToldOf (outcome_of finding) k k' told → told ≡ ended_outcome statuses.Memory lines.Memory
short_told (findings.Judged journal) told k k' short ends = absurd short
short_told (findings.Repaired journal sick) told k k' short ends = absurd short
short_told (findings.Full journal) told k k' short ends = absurd short
short_told (findings.Refused line) told k k' short ends = absurd short
short_told findings.Made told k k' short ends = absurd short
short_told findings.Usage told k k' short ends = absurd short
short_told (findings.DeviceFailed journal) told k k' short ends = absurd short
short_told findings.HostFailed told k k' short ends = absurd short
short_told (findings.Memory journal) told k k' short ends =
    told_fixed told statuses.Memory lines.Memory k k' refl (subst (λ (js : List Entry). IsToldOf (stopped_outcome statuses.Memory js lines.Memory) k k' told) short ends)

-- what the words alone decide, or that there was no memory
worded_told : (finding wanted : Finding) (s : Status) (line : LastLine) (told : Outcome) (k k' : ℕ) → outcome_of wanted ≡ ended_outcome s line → is_fixed line ≡ true → (finding ≡ wanted) ⊎ IsShort finding → IsToldOf (outcome_of finding) k k' told
    → IsToldOrShort (ended_outcome s line) told
worded_told finding wanted s line told k k' is fixed (inl same) ends =
    inl (told_fixed told s line k k' fixed (subst (λ (o : Outcome). IsToldOf o k k' told) (ap outcome_of same ∙ is) ends))
worded_told finding wanted s line told k k' is fixed (inr short) ends = inr (short_told finding told k k' short ends)

-- the making of an image is told as that, or why it was stopped
made_told : (finding : Finding) (told : Outcome) (k k' : ℕ) → IsOfMake finding → IsToldOf (outcome_of finding) k k' told → (told ≡ made_outcome) ⊎ ((told.journal ≡ []) × (IsSettled told.status → ⊥))
made_told (findings.Judged journal) told k k' of ends = absurd of
made_told (findings.Repaired journal sick) told k k' of ends = absurd of
made_told (findings.Full journal) told k k' of ends = absurd of
made_told (findings.Refused line) told k k' of ends = absurd of
made_told findings.Made told k k' of (inl whole) = inl whole.0
made_told findings.Made told k k' of (inr (inl failed)) = absurd (failed.2 refl)
made_told findings.Made told k k' of (inr (inr memory)) = absurd (memory.3 refl)
made_told findings.Usage told k k' of ends = absurd of
made_told (findings.DeviceFailed journal) told k k' of ends = inr (told_none (outcome_of (findings.DeviceFailed journal)) told k k' of (λ settled. settled) ends)
made_told findings.HostFailed told k k' of ends = inr (told_none (outcome_of findings.HostFailed) told k k' refl (λ settled. settled) ends)
made_told (findings.Memory journal) told k k' of ends = inr (told_none (outcome_of (findings.Memory journal)) told k k' of (λ settled. settled) ends)

-- ---- what the words say of a repair

repaired_not_usage : (journal : List Entry) (sick : Bool) → repaired_status sick journal ≡ statuses.Usage → ⊥
repaired_not_usage journal false e = judged_not_usage journal e
repaired_not_usage journal true e = either (list_any is_given_up journal) e
  where
    either : (b : Bool) → cond b statuses.GaveUp statuses.Faulty ≡ statuses.Usage → ⊥
    either true e = cc
    either false e = cc

repaired_not_refused : (journal : List Entry) (sick : Bool) → repaired_status sick journal ≡ statuses.Refused → ⊥
repaired_not_refused journal false e = judged_not_refused journal e
repaired_not_refused journal true e = either (list_any is_given_up journal) e
  where
    either : (b : Bool) → cond b statuses.GaveUp statuses.Faulty ≡ statuses.Refused → ⊥
    either true e = cc
    either false e = cc

repair_not_usage : (finding : Finding) → IsOfRepair finding → (outcome_of finding).status ≡ statuses.Usage → ⊥
repair_not_usage (findings.Judged journal) of e = of
repair_not_usage (findings.Repaired journal sick) of e = repaired_not_usage journal.items sick e
repair_not_usage (findings.Full journal) of e = cc
repair_not_usage (findings.Refused line) of e = cc
repair_not_usage findings.Made of e = of
repair_not_usage findings.Usage of e = of
repair_not_usage (findings.DeviceFailed journal) of e = cc
repair_not_usage findings.HostFailed of e = cc
repair_not_usage (findings.Memory journal) of e = cc

other_than_unbuilt : (line : LastLine) → is_no_repair line ≡ true → Some line ≡ Some lines.Unbuilt → ⊥
other_than_unbuilt line refuses e = let same : line ≡ lines.Unbuilt = cc in clash (subst (λ (l : LastLine). is_no_repair l ≡ true) same refuses)
  where
    clash : false ≡ true → ⊥
    clash e = cc

repair_not_unbuilt : (finding : Finding) → IsOfRepair finding → (outcome_of finding).last ≡ Some lines.Unbuilt → ⊥
repair_not_unbuilt (findings.Judged journal) of e = of
repair_not_unbuilt (findings.Repaired journal sick) of e = cc
repair_not_unbuilt (findings.Full journal) of e = cc
repair_not_unbuilt (findings.Refused line) of e = other_than_unbuilt line of e
repair_not_unbuilt findings.Made of e = of
repair_not_unbuilt findings.Usage of e = of
repair_not_unbuilt (findings.DeviceFailed journal) of e = cc
repair_not_unbuilt findings.HostFailed of e = cc
repair_not_unbuilt (findings.Memory journal) of e = cc

repair_refused : (finding : Finding) → IsOfRepair finding → (outcome_of finding).status ≡ statuses.Refused → IsNoRepairLine (outcome_of finding).last
repair_refused (findings.Judged journal) of e = absurd of
repair_refused (findings.Repaired journal sick) of e = absurd (repaired_not_refused journal.items sick e)
repair_refused (findings.Full journal) of e = absurd (full_not_refused e)
repair_refused (findings.Refused line) of e = (line, refl, of)
repair_refused findings.Made of e = absurd of
repair_refused findings.Usage of e = absurd of
repair_refused (findings.DeviceFailed journal) of e = absurd (failed_not_refused e)
repair_refused findings.HostFailed of e = absurd (failed_not_refused e)
repair_refused (findings.Memory journal) of e = absurd (memory_not_refused e)

told_not_usage_repair : (finding : Finding) (told : Outcome) (k k' : ℕ) → IsOfRepair finding → IsToldOf (outcome_of finding) k k' told → told.status ≡ statuses.Usage → ⊥
told_not_usage_repair finding told k k' of (inl whole) e = repair_not_usage finding of (ap (λ (q : Outcome). q.status) (sym whole.0) ∙ e)
told_not_usage_repair finding told k k' of (inr (inl failed)) e = let clash : statuses.Failed ≡ statuses.Usage = ap (λ (q : Outcome). q.status) (sym failed.0) ∙ e in cc
told_not_usage_repair finding told k k' of (inr (inr memory)) e = let clash : statuses.Memory ≡ statuses.Usage = sym memory.0 ∙ e in cc

told_not_unbuilt_repair : (finding : Finding) (told : Outcome) (k k' : ℕ) → IsOfRepair finding → IsToldOf (outcome_of finding) k k' told → told.last ≡ Some lines.Unbuilt → ⊥
told_not_unbuilt_repair finding told k k' of (inl whole) e = repair_not_unbuilt finding of (ap (λ (q : Outcome). q.last) (sym whole.0) ∙ e)
told_not_unbuilt_repair finding told k k' of (inr (inl failed)) e = let clash : Some lines.HostFailed ≡ Some lines.Unbuilt = ap (λ (q : Outcome). q.last) (sym failed.0) ∙ e in cc
told_not_unbuilt_repair finding told k k' of (inr (inr memory)) e = let clash : Some lines.Memory ≡ Some lines.Unbuilt = sym memory.1 ∙ e in cc

told_no_repair : (finding : Finding) (told : Outcome) (k k' : ℕ) → IsOfRepair finding → IsToldOf (outcome_of finding) k k' told → told.status ≡ statuses.Refused → IsNoRepairLine told.last
told_no_repair finding told k k' of (inl whole) e =
    subst (λ (o : Outcome). IsNoRepairLine o.last) (sym whole.0) (repair_refused finding of (ap (λ (q : Outcome). q.status) (sym whole.0) ∙ e))
told_no_repair finding told k k' of (inr (inl failed)) e = absurd (failed_not_refused (ap (λ (q : Outcome). q.status) (sym failed.0) ∙ e))
told_no_repair finding told k k' of (inr (inr memory)) e = absurd (memory_not_refused (sym memory.0 ∙ e))

pub told_by_words : (job : Job) (finding : Finding) (told : Outcome) (k k' : ℕ) → IsWorded job finding → IsToldOf (outcome_of finding) k k' told → EndsByWords job told
told_by_words usage finding told k k' worded ends = worded_told finding findings.Usage statuses.Usage lines.Usage told k k' refl refl worded ends
told_by_words unbuilt finding told k k' worded ends =
    worded_told finding (findings.Refused lines.Unbuilt) statuses.Refused lines.Unbuilt told k k' refl refl worded ends
told_by_words (check_of name redo) finding told k k' worded ends =
    (told_not_usage (is_some redo) finding told k k' worded ends, told_not_unbuilt (is_some redo) finding told k k' worded ends, told_image (is_some redo) finding told k k' worded ends)
told_by_words (repair_of name redo plan turns) finding told k k' worded ends =
    (told_not_usage_repair finding told k k' worded.0 ends, told_not_unbuilt_repair finding told k k' worded.0 ends, told_no_repair finding told k k' worded.0 ends)
told_by_words (make_of name) finding told k k' worded ends = made_told finding told k k' worded ends

-- ---- the units of a journal

judged_units : (journal : List Entry) → HasAllUnits journal → HasUnits (judged_status journal) journal
judged_units journal all = either (list_all is_calm journal) (list_any is_given_up journal)
  where
    either : (a b : Bool) → HasUnits (status_by a b) journal
    either true b = all
    either false true = all
    either false false = all

found_units : (given : Bool) (finding : Finding) → IsOfImage given finding → HasUnits (outcome_of finding).status (outcome_of finding).journal
found_units given (findings.Judged journal) of = judged_units journal.items of
found_units given (findings.Repaired journal sick) of = absurd of
found_units given (findings.Full journal) of = of
found_units given (findings.Refused line) of = tt
found_units given findings.Made of = absurd of
found_units given findings.Usage of = tt
found_units given (findings.DeviceFailed journal) of = of
found_units given findings.HostFailed of = no_units
found_units given (findings.Memory journal) of = (journal.items, of, ([], sym (append-nil journal.items)))

found_first : (given : Bool) (finding : Finding) → IsOfImage given finding → HasFirstUnits (outcome_of finding).journal
found_first given (findings.Judged journal) of = all_are_first journal.items of
found_first given (findings.Repaired journal sick) of = absurd of
found_first given (findings.Full journal) of = most_are_first journal.items of
found_first given (findings.Refused line) of = no_units
found_first given findings.Made of = no_units
found_first given findings.Usage of = no_units
found_first given (findings.DeviceFailed journal) of = of
found_first given findings.HostFailed of = no_units
found_first given (findings.Memory journal) of = of

short_of_image : (given : Bool) (finding : Finding) → IsShort finding → IsOfImage given finding
short_of_image given (findings.Judged journal) short = absurd short
short_of_image given (findings.Repaired journal sick) short = absurd short
short_of_image given (findings.Full journal) short = absurd short
short_of_image given (findings.Refused line) short = absurd short
short_of_image given findings.Made short = absurd short
short_of_image given findings.Usage short = absurd short
short_of_image given (findings.DeviceFailed journal) short = absurd short
short_of_image given findings.HostFailed short = absurd short
short_of_image given (findings.Memory journal) short = subst HasFirstUnits (sym short) no_units

short_of_make : (finding : Finding) → IsShort finding → IsOfMake finding
short_of_make (findings.Judged journal) short = absurd short
short_of_make (findings.Repaired journal sick) short = absurd short
short_of_make (findings.Full journal) short = absurd short
short_of_make (findings.Refused line) short = absurd short
short_of_make findings.Made short = absurd short
short_of_make findings.Usage short = absurd short
short_of_make (findings.DeviceFailed journal) short = absurd short
short_of_make findings.HostFailed short = absurd short
short_of_make (findings.Memory journal) short = short

short_of_repair : (finding : Finding) → IsShort finding → IsOfRepair finding
short_of_repair (findings.Judged journal) short = absurd short
short_of_repair (findings.Repaired journal sick) short = absurd short
short_of_repair (findings.Full journal) short = absurd short
short_of_repair (findings.Refused line) short = absurd short
short_of_repair findings.Made short = absurd short
short_of_repair findings.Usage short = absurd short
short_of_repair (findings.DeviceFailed journal) short = absurd short
short_of_repair findings.HostFailed short = absurd short
short_of_repair (findings.Memory journal) short = tt

short_session : (plan : Plan) (turns : ℕ) (finding : Finding) → IsShort finding → FindsSession plan turns finding
short_session plan turns (findings.Judged journal) short = absurd short
short_session plan turns (findings.Repaired journal sick) short = absurd short
short_session plan turns (findings.Full journal) short = absurd short
short_session plan turns (findings.Refused line) short = absurd short
short_session plan turns findings.Made short = absurd short
short_session plan turns findings.Usage short = absurd short
short_session plan turns (findings.DeviceFailed journal) short = absurd short
short_session plan turns findings.HostFailed short = absurd short
short_session plan turns (findings.Memory journal) short = none_cut plan turns 8 journal.items refl short

-- there was no memory for the words
pub short_worded : (job : Job) (finding : Finding) → IsShort finding → IsWorded job finding
short_worded usage finding short = inr short
short_worded unbuilt finding short = inr short
short_worded (check_of name redo) finding short = short_of_image (is_some redo) finding short
short_worded (repair_of name redo plan turns) finding short = (short_of_repair finding short, short_session plan turns finding short)
short_worded (make_of name) finding short = short_of_make finding short

-- words alone have no units
no_words_units : (finding wanted : Finding) → HasUnits (outcome_of wanted).status (outcome_of wanted).journal → (finding ≡ wanted) ⊎ IsShort finding → HasUnits (outcome_of finding).status (outcome_of finding).journal
no_words_units finding wanted none (inl same) = subst (λ (f : Finding). HasUnits (outcome_of f).status (outcome_of f).journal) (sym same) none
no_words_units finding wanted none (inr short) = found_units true finding (short_of_image true finding short)

no_words_first : (finding wanted : Finding) → HasFirstUnits (outcome_of wanted).journal → (finding ≡ wanted) ⊎ IsShort finding → HasFirstUnits (outcome_of finding).journal
no_words_first finding wanted none (inl same) = subst (λ (f : Finding). HasFirstUnits (outcome_of f).journal) (sym same) none
no_words_first finding wanted none (inr short) = found_first true finding (short_of_image true finding short)

-- the units that a finding has, told
units_told : (finding : Finding) (told : Outcome) (k k' : ℕ) → HasUnits (outcome_of finding).status (outcome_of finding).journal → HasFirstUnits (outcome_of finding).journal
    → IsToldOf (outcome_of finding) k k' told → HasUnits told.status told.journal
units_told finding told k k' units first (inl whole) = subst (λ (o : Outcome). HasUnits o.status o.journal) (sym whole.0) units
units_told finding told k k' units first (inr (inl failed)) = subst (λ (o : Outcome). HasUnits o.status o.journal) (sym failed.0) first
units_told finding told k k' units first (inr (inr memory)) =
    subst (λ (s : Status). HasUnits s told.journal) (sym memory.0) ((outcome_of finding).journal, first, memory.2)

-- a new image has no units
no_made_units : (told : Outcome) → (told ≡ made_outcome) ⊎ ((told.journal ≡ []) × (IsSettled told.status → ⊥)) → told.journal ≡ []
no_made_units told (inl made) = ap (λ (o : Outcome). o.journal) made
no_made_units told (inr stopped) = stopped.0

-- a repair's journal is a session, as far as it is told
repaired_units : (plan : Plan) (turns : ℕ) (journal : List Entry) (sick : Bool) → HasSession plan turns (code_of (repaired_status sick journal)) journal → HasRepairUnits plan turns (repaired_status sick journal) journal
repaired_units plan turns journal false = either (list_all is_calm journal) (list_any is_given_up journal)
  where
    either : (a b : Bool) → HasSession plan turns (code_of (status_by a b)) journal → HasRepairUnits plan turns (status_by a b) journal
    either true b has = has
    either false true has = has
    either false false has = has
repaired_units plan turns journal true = either (list_any is_given_up journal)
  where
    either : (b : Bool) → HasSession plan turns (code_of (cond b statuses.GaveUp statuses.Faulty)) journal → HasRepairUnits plan turns (cond b statuses.GaveUp statuses.Faulty) journal
    either true has = has
    either false has = has

found_repair_units : (plan : Plan) (turns : ℕ) (finding : Finding) → IsOfRepair finding → FindsSession plan turns finding → HasRepairUnits plan turns (outcome_of finding).status (outcome_of finding).journal
found_repair_units plan turns (findings.Judged journal) of has = absurd of
found_repair_units plan turns (findings.Repaired journal sick) of has = repaired_units plan turns journal.items sick has
found_repair_units plan turns (findings.Full journal) of has = (of, has)
found_repair_units plan turns (findings.Refused line) of has = has
found_repair_units plan turns findings.Made of has = absurd of
found_repair_units plan turns findings.Usage of has = absurd of
found_repair_units plan turns (findings.DeviceFailed journal) of has = has
found_repair_units plan turns findings.HostFailed of has = has
found_repair_units plan turns (findings.Memory journal) of has = has

told_repair_units : (plan : Plan) (turns : ℕ) (finding : Finding) (told : Outcome) (k k' : ℕ) → IsOfRepair finding → FindsSession plan turns finding → IsToldOf (outcome_of finding) k k' told → HasRepairUnits plan turns told.status told.journal
told_repair_units plan turns finding told k k' of has (inl whole) = subst (λ (o : Outcome). HasRepairUnits plan turns o.status o.journal) (sym whole.0) (found_repair_units plan turns finding of has)
told_repair_units plan turns finding told k k' of has (inr (inl failed)) =
    let journal : List Entry = (outcome_of finding).journal in
    subst (λ (o : Outcome). HasRepairUnits plan turns o.status o.journal) (sym failed.0) (cut_session plan turns (code_of (outcome_of finding).status) 5 journal journal refl ([], sym (append-nil journal)) has)
told_repair_units plan turns finding told k k' of has (inr (inr memory)) =
    subst (λ (s : Status). HasRepairUnits plan turns s told.journal) (sym memory.0) (cut_session plan turns (code_of (outcome_of finding).status) 8 told.journal (outcome_of finding).journal refl memory.2 has)

pub told_units : (job : Job) (finding : Finding) (told : Outcome) (k k' : ℕ) → IsWorded job finding → IsToldOf (outcome_of finding) k k' told → HasUnitsOf job told.status told.journal
told_units usage finding told k k' worded ends =
    units_told finding told k k' (no_words_units finding findings.Usage tt worded) (no_words_first finding findings.Usage no_units worded) ends
told_units unbuilt finding told k k' worded ends =
    units_told finding told k k' (no_words_units finding (findings.Refused lines.Unbuilt) tt worded) (no_words_first finding (findings.Refused lines.Unbuilt) no_units worded) ends
told_units (check_of name redo) finding told k k' worded ends = units_told finding told k k' (found_units (is_some redo) finding worded) (found_first (is_some redo) finding worded) ends
told_units (repair_of name redo plan turns) finding told k k' worded ends = told_repair_units plan turns finding told k k' worded.0 worded.1 ends
told_units (make_of name) finding told k k' worded ends = no_made_units told (made_told finding told k k' worded ends)
