-- A unit whose verdict passed stands, unless a tree of it is sick.
use Rattle.std.proofs.Common.{◌≡◌, ℕ, ◌||◌, Bool, true, false, List, [], ◌∷◌, ◌⊎◌, refl, ap, sym, subst, ◌∙◌, inl, inr, append-nil, reverse, Some, None}
use Rattle.std.proofs.lemmas.Bool.{cases_Bool, false≢true, or_left, true≢false}
use Rattle.fs_change.specs.Marks.{Due, dues}
use Rattle.fs_change.specs.Parts.{is_sick}
use Rattle.fs_change.specs.Step.{Step}
use Rattle.fs_state.specs.Faults.{kind_of_fault}
use Rattle.fs_state.specs.Records.{unit_of}
use Rattle.fs_state.specs.Session.{first_fallen, is_at, is_passed, stands, unit_order, verdict_places}
use Rattle.fs_state.specs.declared.plan.Plan.{Plan}
use Rattle.fs_model.specs.declared.entry.Entry.{Entry}
use Rattle.fs_model.specs.declared.entry.Entry.TheVariants as entries
use Rattle.fs_model.specs.declared.unit.Trust.TheVariants.{Sick}
use Rattle.fs_model.specs.declared.unit.Unit.{Unit as ScrubUnit}
use Rattle.fs_said.specs.Said.{SaysOn, Told, nothing_told, told_after}
use Rattle.fs_state.specs.State.{State}
use Rattle.sblock.specs.declared.kind.Kind.{Kind}
use Rattle.law_said.proofs.Places.{NoneFell, judged_inside, judged_on, none_judged, onto, onto_is}
use Rattle.law_said.proofs.Tests.{at_itself, at_other, at_place, on_false, on_true}
use Rattle.law_said.proofs.Trust.{fault_sick, mark_sick, touches, tree_kept}
use Rattle.law_said.proofs.Trusted.{verdict_spares}
use Rattle.law_said.specs.Ends.{AllPass, PassedStand}
use Rattle.law_said.specs.InTime.{AllInTime, MakesInTime, was_judged}

-- a tree of the unit is sick
abbrev HasSick : State → ℕ → ScrubUnit → Type 0
HasSick a g u = (k : Kind) × (unit_of k ≡ u) × (((a.group g).tree k).trust ≡ Sick)

abbrev StandOrSick : List Entry → State → Type 0
StandOrSick past a = (g : ℕ) (u : ScrubUnit) → was_judged g u past ≡ true → (stands g u past ≡ true) ⊎ HasSick a g u

abbrev HasPassed : Entry → Type 0
HasPassed (entries.Verdict h v w) = is_passed w ≡ true
HasPassed e = Unit {0}

module _ (a b : State) (left : List Kind) (past : List Entry) (old : StandOrSick past a) where
  sick_kept : (e : Entry) → Step a left e b → (g : ℕ) (u : ScrubUnit) → touches e g u ≡ false → HasSick a g u → HasSick b g u
  sick_kept e s g u out sick =
      (sick.0, sick.1, tree_kept a b left e s g sick.0 (subst (λ (v : ScrubUnit). touches e g v ≡ false) (sym sick.1) out) ∙ sick.2)

  -- an entry of another unit
  spares : (e : Entry) → Step a left e b → (g : ℕ) (u : ScrubUnit) → touches e g u ≡ false → (stands g u past ≡ true → stands g u (e ∷ past) ≡ true) → was_judged g u past ≡ true
      → (stands g u (e ∷ past) ≡ true) ⊎ HasSick b g u
  spares e s g u out still judged = elim (old g u judged) [ inl st ↦ inl (still st) | inr sick ↦ inr (sick_kept e s g u out sick) ]

  marks : (e : Entry) → Step a left e b → (g : ℕ) (u : ScrubUnit) (h : ℕ) (k : Kind) → touches e g u ≡ is_at g u h (unit_of k) → ((b.group h).tree k).trust ≡ Sick
      → (is_at g u h (unit_of k) ≡ false → stands g u past ≡ true → stands g u (e ∷ past) ≡ true) → was_judged g u past ≡ true → (stands g u (e ∷ past) ≡ true) ⊎ HasSick b g u
  marks e s g u h k same sick still judged = elim (cases_Bool (is_at g u h (unit_of k))) [
    | inl here ↦ inr (at_place (HasSick b) g u h (unit_of k) here (k, refl, sick))
    | inr away ↦ spares e s g u (same ∙ away) (still away) judged
  ]

  sick_after : (e : Entry) → Step a left e b → HasPassed e → MakesInTime past e → StandOrSick (e ∷ past) b
  unfolding stands was_judged
  sick_after (entries.Verdict h v w) s passed early g u judged = elim (cases_Bool (is_at g u h v)) [
    | inl here ↦ inl (on_true (is_at g u h v) (is_passed w) (stands g u past) here ∙ passed)
    | inr away ↦
        spares (entries.Verdict h v w) s g u (verdict_spares w h v g u away) (λ st. on_false (is_at g u h v) (is_passed w) (stands g u past) away ∙ st)
        (sym (ap (λ (x : Bool). x || was_judged g u past) away) ∙ judged)
  ]
  sick_after (entries.Fault h v fault) s passed early g u judged =
      marks (entries.Fault h v fault) s g u h (kind_of_fault fault) refl (fault_sick a b left h v fault s) (λ away st. on_false (is_at g u h (unit_of (kind_of_fault fault))) false (stands g u past) away ∙ st) judged
  sick_after (entries.Marked h k cause) s passed early g u judged =
      marks (entries.Marked h k cause) s g u h k refl (mark_sick a b left h k cause s) (λ away st. on_false (is_at g u h (unit_of k)) false (stands g u past) away ∙ st) judged
  sick_after (entries.Switched h v root second) s passed early g u judged = elim (cases_Bool (is_at g u h v)) [
    | inl here ↦ absurd (true≢false (sym (at_other (λ i x. was_judged i x past ≡ true) g u h v here judged) ∙ early))
    | inr away ↦ spares (entries.Switched h v root second) s g u away (λ st. st) judged
  ]
  sick_after e s passed early g u judged = spares e s g u refl (λ st. st) judged

-- ---- a journal

one_more : (e : Entry) (es : List Entry) → AllPass (e ∷ es) → HasPassed e × AllPass es
one_more (entries.Verdict h v w) es passed = (passed.0, passed.1)
one_more e es passed = (tt, passed)

sick_on : (plan : Plan) (ds : List Due) (t u : Told) (a b : State) (es : List Entry) → SaysOn plan ds t a es u b → AllPass es → AllInTime t.past es → StandOrSick t.past a → StandOrSick (onto es t.past) b
sick_on plan [] t u a b [] h passed early old = subst (StandOrSick t.past) (sym h.1) old
sick_on plan (d ∷ ds) t u a b [] h passed early old = absurd h
sick_on plan [] t u a b (e ∷ es) h passed early old =
    let both = one_more e es passed in
    sick_on plan (dues a h.1 e h.3.decided h.2) (told_after a e t) u h.2 b es h.5 both.1 early.1 (sick_after a h.2 h.1 t.past old e h.3 both.0 early.0)
sick_on plan (d ∷ ds) t u a b (e ∷ es) h passed early old =
    let both = one_more e es passed in
    sick_on plan ds (told_after a e t) u h.2 b es h.4 both.1 early.1 (sick_after a h.2 [] t.past old e h.3 both.0 early.0)

-- who has a verdict stands at the end
places_stand : (end : List Entry) (es past : List Entry) → onto es past ≡ end → NoneFell end → first_fallen end (verdict_places es) ≡ None
unfolding verdict_places was_judged
places_stand end [] past is none = refl
places_stand end (entries.Verdict h v w ∷ es) past is none =
    let judged : was_judged h v (onto es (entries.Verdict h v w ∷ past)) ≡ true = judged_on h v es (entries.Verdict h v w ∷ past) (or_left (is_at h v h v) (was_judged h v past) (at_itself h v)) in
    let here : stands h v end ≡ true = none h v (ap (was_judged h v) (sym is) ∙ judged) in
    on_true (stands h v end) (first_fallen end (verdict_places es)) (Some (h, v)) here ∙ places_stand end es (entries.Verdict h v w ∷ past) is none
places_stand end (e ∷ es) past is none = places_stand end es (e ∷ past) is none

none_at_first : (a : State) → StandOrSick [] a
none_at_first a g u judged = absurd (false≢true (sym (none_judged g u) ∙ judged))

pub passed_stand : PassedStand
passed_stand plan turns n a b es l all early session passed none =
    let same : onto es [] ≡ reverse es = onto_is es [] ∙ append-nil (reverse es) in
    let either : StandOrSick (onto es []) b = sick_on plan [] nothing_told l.0 a b es l.1 passed early (none_at_first a) in
    let unfallen : NoneFell (onto es []) = λ g u judged. elim (either g u judged) [
      | inl st ↦ st
      | inr sick ↦ absurd (true≢false (sym (ap is_sick sick.2) ∙ none g sick.0 (judged_inside n es [] g u all (λ now. absurd (false≢true (sym (none_judged g u) ∙ now))) judged)))
    ] in
    ap (λ (past : List Entry). first_fallen past (unit_order n)) (sym same) ∙ ap (first_fallen (onto es [])) (sym session.order_kept) ∙ places_stand (onto es []) es [] refl unfallen
