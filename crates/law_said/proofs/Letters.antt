-- In a session in which no unit falls behind its verdict, each unit that stands is known: no entry ends its letter.
use Rattle.std.proofs.Common.{◌≡◌, ℕ, ◌==◌, ◌&&◌, ◌||◌, Bool, true, false, List, [], ◌∷◌, refl, sym, subst, ◌∙◌, inl, inr, eqb-true, eq-eqb}
use Rattle.std.specs.Prelude.{not}
use Rattle.std.specs.List.{list_any}
use Rattle.std.proofs.lemmas.Bool.{and_from, and_left, cases_Bool, false_from_ne_true, false≢true, or_from, or_left, or_right, not_from_false, true≢false}
use Rattle.fs_change.specs.Edited.{group_of_entry}
use Rattle.fs_state.specs.Faults.{kind_of_fault}
use Rattle.fs_state.specs.Records.{unit_of}
use Rattle.fs_state.specs.Session.{is_at, is_passed, is_same_unit, stands}
use Rattle.fs_model.specs.declared.entry.Entry.{Entry}
use Rattle.fs_model.specs.declared.entry.Entry.TheVariants as entries
use Rattle.fs_model.specs.declared.unit.Unit.{Unit as ScrubUnit}
use Rattle.fs_model.specs.declared.unit.Unit.TheVariants as units
use Rattle.fs_model.specs.declared.verdict.Verdict.{Verdict}
use Rattle.fs_model.specs.declared.verdict.Verdict.TheVariants as verdicts
use Rattle.fs_said.specs.Said.{StandsBehind}
use Rattle.fs_state.specs.Group.{is_among}
use Rattle.fs_state.specs.State.{Group, State}
use Rattle.law_repairs.specs.Letter.Known.{Letters, are_made, is_of_repair, is_same_unit as is_same, letters_after, outlasts, own_letters, rests}
use Rattle.law_repairs.specs.Reserve.Reserving.{ends_known, kept_by_edits}
use Rattle.sblock.specs.declared.kind.Kind.{Kind}
use Rattle.sblock.specs.declared.kind.Kind.TheVariants.{Bno, Cnt, Rmap}
use Rattle.law_said.proofs.Places.{NoneFell, stands_judged}
use Rattle.law_said.proofs.Ready.{Needs}
use Rattle.law_said.proofs.Tests.{at_other, at_place, on_false, on_true, spared}
use Rattle.law_said.specs.InTime.{MakesInTime, is_repair_in, was_judged}

-- each unit that stands is known
abbrev pub StandingKnown : (ℕ → Letters) → List Entry → Type 0
StandingKnown letters past = (g : ℕ) (u : ScrubUnit) → stands g u past ≡ true → letters g u ≡ true

-- so is one whose switch is the last entry
abbrev pub SwitchKnown : (ℕ → Letters) → List Entry → Type 0
SwitchKnown letters (entries.Switched g u root second ∷ past) = letters g u ≡ true
SwitchKnown letters past = Unit {0}

-- the letters of all groups behind an entry
abbrev pub next_letters : State → List Kind → (ℕ → Letters) → Entry → ℕ → Letters
next_letters a left letters e g = letters_after a left e g (letters g)

-- ---- units

same_as : (u v : ScrubUnit) → is_same_unit u v ≡ true → is_same v u ≡ true
same_as units.Inode units.Inode h = refl
same_as units.Rmap units.Rmap h = refl
same_as units.Free units.Free h = refl
same_as units.Refc units.Refc h = refl
same_as u v h = absurd (false≢true h)

same_self : (u : ScrubUnit) → is_same u u ≡ true
same_self units.Inode = refl
same_self units.Rmap = refl
same_self units.Free = refl
same_self units.Refc = refl

flip : (g h : ℕ) → (g == h) ≡ false → (h == g) ≡ false
flip g h other = false_from_ne_true (h == g) (λ e. true≢false (sym (eq-eqb g h (sym (eqb-true h g e))) ∙ other))

behind_switch : (letters : ℕ → Letters) (h : ℕ) (v : ScrubUnit) (past : List Entry) → StandsBehind past (entries.Verdict h v verdicts.Rebuilt) → SwitchKnown letters past → letters h v ≡ true
behind_switch letters h v [] behind known = absurd behind
behind_switch letters h v (entries.Switched g u root second ∷ past) behind known = at_other (λ i w. letters i w ≡ true) g u h v behind known
behind_switch letters h v (e ∷ past) behind known = absurd behind

module _ (a : State) (left : List Kind) (letters : ℕ → Letters) (past : List Entry) (known : StandingKnown letters past) (last : SwitchKnown letters past)
    (none : NoneFell past) (needs : (g : ℕ) (u : ScrubUnit) → stands g u past ≡ true → Needs g u past) where
  -- none of its trees was left
  abbrev Unleft : ℕ → Type 0
  Unleft g = (k : Kind) → is_among k left ≡ true → was_judged g (unit_of k) past ≡ false

  unleft : (g : ℕ) → Unleft g → (k : Kind) → was_judged g (unit_of k) past ≡ true → is_among k left ≡ false
  unleft g free k judged = false_from_ne_true (is_among k left) (λ among. true≢false (sym judged ∙ free k among))

  made : (g : ℕ) → Unleft g → (u : ScrubUnit) → stands g u past ≡ true → Needs g u past → are_made left u ≡ true
  made g free units.Inode st need = refl
  made g free units.Rmap st need =
      not_from_false (list_any (λ k. is_among k left) (kept_by_edits units.Rmap)) (or_from (is_among Rmap left) false (unleft g free Rmap (stands_judged g units.Rmap past st)) refl)
  made g free units.Free st need =
      let judged = stands_judged g units.Free past st in
      not_from_false (list_any (λ k. is_among k left) (kept_by_edits units.Free))
      (or_from (is_among Bno left) (is_among Cnt left || (is_among Rmap left || false)) (unleft g free Bno judged)
      (or_from (is_among Cnt left) (is_among Rmap left || false) (unleft g free Cnt judged)
      (or_from (is_among Rmap left) false (unleft g free Rmap need) refl)))
  made g free units.Refc st need = refl

  -- a block is reserved for a unit that has no verdict yet, so no unit that stands ends by it
  not_ended : (g : ℕ) (own : ScrubUnit) (spare : Bool) (u : ScrubUnit) → was_judged g own past ≡ false → stands g u past ≡ true → Needs g u past → ends_known own spare u ≡ false
  not_ended g units.Free true units.Free early st need = absurd (true≢false (sym (stands_judged g units.Free past st) ∙ early))
  not_ended g units.Rmap true units.Rmap early st need = absurd (true≢false (sym (stands_judged g units.Rmap past st) ∙ early))
  not_ended g units.Rmap true units.Free early st need = absurd (true≢false (sym need ∙ early))
  not_ended g own spare u early st need = refl

  rested : (g : ℕ) (u : ScrubUnit) → stands g u past ≡ true → Needs g u past → rests (letters g) u ≡ true
  rested g units.Inode st need = refl
  rested g units.Rmap st need = refl
  rested g units.Free st need = known g units.Rmap (none g units.Rmap need)
  rested g units.Refc st need = refl

  outlasting : (g : ℕ) (p : Group) (own u : ScrubUnit) → was_judged g own past ≡ false → stands g u past ≡ true → Needs g u past → (is_same own u || (letters g u && outlasts p own u)) ≡ true
  outlasting g p units.Inode units.Inode early st need = refl
  outlasting g p units.Inode units.Rmap early st need = absurd (true≢false (sym need ∙ early))
  outlasting g p units.Inode units.Free early st need = and_from (letters g units.Free) true (known g units.Free st) refl
  outlasting g p units.Inode units.Refc early st need = and_from (letters g units.Refc) true (known g units.Refc st) refl
  outlasting g p units.Rmap units.Inode early st need = and_from (letters g units.Inode) true (known g units.Inode st) refl
  outlasting g p units.Rmap units.Rmap early st need = refl
  outlasting g p units.Rmap units.Free early st need = absurd (true≢false (sym need ∙ early))
  outlasting g p units.Rmap units.Refc early st need = absurd (true≢false (sym need ∙ early))
  outlasting g p units.Free units.Inode early st need = and_from (letters g units.Inode) true (known g units.Inode st) refl
  outlasting g p units.Free units.Rmap early st need = and_from (letters g units.Rmap) true (known g units.Rmap st) refl
  outlasting g p units.Free units.Free early st need = refl
  outlasting g p units.Free units.Refc early st need = and_from (letters g units.Refc) true (known g units.Refc st) refl
  outlasting g p units.Refc units.Inode early st need = and_from (letters g units.Inode) true (known g units.Inode st) refl
  outlasting g p units.Refc units.Rmap early st need = and_from (letters g units.Rmap) true (known g units.Rmap st) refl
  outlasting g p units.Refc units.Free early st need = and_from (letters g units.Free) true (known g units.Free st) refl
  outlasting g p units.Refc units.Refc early st need = refl

  -- ---- an entry of the unit's own group

  own_verdict : (h : ℕ) (v : ScrubUnit) (w : Verdict) → is_passed w ≡ true → StandsBehind past (entries.Verdict h v w) → own_letters a left (entries.Verdict h v w) (letters h) v ≡ true
  own_verdict h v verdicts.Good passed behind = or_left (is_same v v) (letters h v) (same_self v)
  own_verdict h v verdicts.Rebuilt passed behind = behind_switch letters h v past behind last
  own_verdict h v w passed behind = absurd (false≢true passed)

  other_verdict : (h : ℕ) (v : ScrubUnit) (w : Verdict) (u : ScrubUnit) → letters h u ≡ true → own_letters a left (entries.Verdict h v w) (letters h) u ≡ true
  other_verdict h v verdicts.Good u is = or_right (is_same v u) (letters h u) is
  other_verdict h v w u is = is

  own_known : (e : Entry) (u : ScrubUnit) (n : ℕ) → is_repair_in n e ≡ true → StandsBehind past e → MakesInTime past e
      → ((k : Kind) → is_among k left ≡ true → was_judged (group_of_entry a e) (unit_of k) (e ∷ past) ≡ false)
      → stands (group_of_entry a e) u (e ∷ past) ≡ true → own_letters a left e (letters (group_of_entry a e)) u ≡ true
  unfolding stands was_judged
  own_known (entries.Verdict h v w) u n repair behind early free st = elim (cases_Bool (is_at h u h v)) [
    | inl here ↦
        at_place (λ i x. own_letters a left (entries.Verdict h v w) (letters i) x ≡ true) h u h v here
        (own_verdict h v w (sym (on_true (is_at h u h v) (is_passed w) (stands h u past) here) ∙ st) behind)
    | inr away ↦ other_verdict h v w u (known h u (sym (on_false (is_at h u h v) (is_passed w) (stands h u past) away) ∙ st))
  ]
  own_known (entries.Fault h v fault) u n repair behind early free st = known h u (spared (is_at h u h (unit_of (kind_of_fault fault))) (stands h u past) st).1
  own_known (entries.Marked h k cause) u n repair behind early free st = known h u (spared (is_at h u h (unit_of k)) (stands h u past) st).1
  own_known (entries.Reply writer line code done refused begun) u n repair behind early free st = known 0 u st
  own_known (entries.Released h v) u n repair behind early free st = known h u st
  own_known (entries.Reserved h v block spare) u n repair behind early free st =
      and_from (letters h u) (not (ends_known v spare u) && are_made left u) (known h u st)
      (and_from (not (ends_known v spare u)) (are_made left u) (not_from_false (ends_known v spare u) (not_ended h v spare u early st (needs h u st))) (made h free u st (needs h u st)))
  own_known (entries.Switched h v root second) u n repair behind early free st = outlasting h (a.group h) v u early st (needs h u st)
  own_known (entries.Reaped e) u n repair behind early free st =
      and_from (letters e.group u) (rests (letters e.group) u && are_made left u) (known e.group u st)
      (and_from (rests (letters e.group) u) (are_made left u) (rested e.group u st (needs e.group u st)) (made e.group free u st (needs e.group u st)))
  own_known e u n repair behind early free st = absurd (false≢true repair)

  -- ---- an entry of another group

  stood : (e : Entry) (g : ℕ) (u : ScrubUnit) → (g == group_of_entry a e) ≡ false → stands g u (e ∷ past) ≡ true → stands g u past ≡ true
  unfolding stands
  stood (entries.Verdict h v w) g u other st = sym (on_false (is_at g u h v) (is_passed w) (stands g u past) (and_left (h == g) (is_same_unit u v) (flip g h other))) ∙ st
  stood (entries.Fault h v fault) g u other st = (spared (is_at g u h (unit_of (kind_of_fault fault))) (stands g u past) st).1
  stood (entries.Marked h k cause) g u other st = (spared (is_at g u h (unit_of k)) (stands g u past) st).1
  stood e g u other st = st

  repairs : (e : Entry) (n : ℕ) → is_repair_in n e ≡ true → is_of_repair e ≡ true
  repairs (entries.Marked h k cause) n repair = refl
  repairs (entries.Fault h v fault) n repair = refl
  repairs (entries.Verdict h v w) n repair = refl
  repairs (entries.Reply writer line code done refused begun) n repair = refl
  repairs (entries.Released h v) n repair = refl
  repairs (entries.Reserved h v block spare) n repair = refl
  repairs (entries.Switched h v root second) n repair = refl
  repairs (entries.Reaped e) n repair = refl
  repairs e n repair = absurd (false≢true repair)

  pub known_after : (e : Entry) (n : ℕ) → is_repair_in n e ≡ true → StandsBehind past e → MakesInTime past e
      → ((k : Kind) → is_among k left ≡ true → was_judged (group_of_entry a e) (unit_of k) (e ∷ past) ≡ false) → StandingKnown (next_letters a left letters e) (e ∷ past)
  known_after e n repair behind early free g u st = elim (cases_Bool (g == group_of_entry a e)) [
    | inl same ↦
        let is = eqb-true g (group_of_entry a e) same in
        on_true (g == group_of_entry a e) (own_letters a left e (letters g) u) (is_of_repair e && letters g u) same
        ∙ subst (λ (x : ℕ). own_letters a left e (letters x) u ≡ true) (sym is)
        (own_known e u n repair behind early free (subst (λ (x : ℕ). stands x u (e ∷ past) ≡ true) is st))
    | inr other ↦
        on_false (g == group_of_entry a e) (own_letters a left e (letters g) u) (is_of_repair e && letters g u) other
        ∙ and_from (is_of_repair e) (letters g u) (repairs e n repair) (known g u (stood e g u other st))
  ]

  pub last_after : (e : Entry) → SwitchKnown (next_letters a left letters e) (e ∷ past)
  last_after (entries.Switched h v root second) =
      on_true (h == h) (own_letters a left (entries.Switched h v root second) (letters h) v) (true && letters h v) (eq-eqb h h refl)
      ∙ or_left (is_same v v) (letters h v && outlasts (a.group h) v v) (same_self v)
  last_after e = tt
