-- A unit that stands is trusted; and what was told is the journal, its last entry first.
use Rattle.std.proofs.Common.{◌≡◌, ℕ, true, false, List, [], ◌∷◌, refl, ap, sym, subst, ◌∙◌, inl, inr, append-nil, reverse}
use Rattle.std.proofs.lemmas.Bool.{cases_Bool, false≢true}
use Rattle.fs_change.specs.Marks.{Due, dues}
use Rattle.fs_change.specs.Step.{Step}
use Rattle.fs_state.specs.Faults.{kind_of_fault}
use Rattle.fs_state.specs.Records.{unit_of}
use Rattle.fs_state.specs.Session.{is_at, is_passed, stands}
use Rattle.fs_state.specs.declared.plan.Plan.{Plan}
use Rattle.fs_model.specs.declared.entry.Entry.{Entry}
use Rattle.fs_model.specs.declared.entry.Entry.TheVariants as entries
use Rattle.fs_model.specs.declared.unit.Unit.{Unit as ScrubUnit}
use Rattle.fs_model.specs.declared.verdict.Verdict.{Verdict}
use Rattle.fs_model.specs.declared.verdict.Verdict.TheVariants as verdicts
use Rattle.fs_said.specs.Said.{IsSaid, SaysOn, StandsBehind, Told, nothing_told, told_after}
use Rattle.fs_state.specs.State.{State}
use Rattle.law_repairs.specs.Repair.Letters.{IsTrusted}
use Rattle.sblock.specs.declared.kind.Kind.{Kind}
use Rattle.law_said.proofs.Trust.{good_trusted, switch_trusted, touches, trusted_kept}
use Rattle.law_said.proofs.Tests.{at_other, at_place, on_false, on_true, reverse_more, spared}
use Rattle.law_said.specs.Truth.{PastIsJournal, StandingIsTrusted}

-- ---- what is known of a journal: units that stand are trusted, and so is one whose switch is the last entry

abbrev pub AreTrusted : List Entry → State → Type 0
AreTrusted past a = (g : ℕ) (unit : ScrubUnit) → stands g unit past ≡ true → IsTrusted a g unit

abbrev pub SwitchTrusted : List Entry → State → Type 0
SwitchTrusted (entries.Switched g unit root second ∷ past) a = IsTrusted a g unit
SwitchTrusted past a = Unit {0}

behind_switch : (a : State) (h : ℕ) (v : ScrubUnit) (past : List Entry) → StandsBehind past (entries.Verdict h v verdicts.Rebuilt) → SwitchTrusted past a → IsTrusted a h v
behind_switch a h v [] behind trusted = absurd behind
behind_switch a h v (entries.Switched g unit root second ∷ past) behind trusted = at_other (IsTrusted a) g unit h v behind trusted
behind_switch a h v (e ∷ past) behind trusted = absurd behind

pub verdict_spares : (w : Verdict) (h : ℕ) (v : ScrubUnit) (g : ℕ) (unit : ScrubUnit) → is_at g unit h v ≡ false → touches (entries.Verdict h v w) g unit ≡ false
verdict_spares verdicts.Good h v g unit out = out
verdict_spares w h v g unit out = refl

module _ (a b : State) (left : List Kind) (past : List Entry) (old : AreTrusted past a) (switched : SwitchTrusted past a) where
  own_verdict : (h : ℕ) (v : ScrubUnit) (w : Verdict) → is_passed w ≡ true → StandsBehind past (entries.Verdict h v w) → Step a left (entries.Verdict h v w) b → IsTrusted b h v
  own_verdict h v verdicts.Good passed behind s = good_trusted a b left h v s
  own_verdict h v verdicts.Rebuilt passed behind s = trusted_kept a b left (entries.Verdict h v verdicts.Rebuilt) s h v refl (behind_switch a h v past behind switched)
  own_verdict h v w passed behind s = absurd (false≢true passed)

  pub trusted_after : (e : Entry) → StandsBehind past e → Step a left e b → AreTrusted (e ∷ past) b
  unfolding stands
  trusted_after (entries.Verdict h v w) behind s g unit st = elim (cases_Bool (is_at g unit h v)) [
    | inl here ↦ at_place (IsTrusted b) g unit h v here (own_verdict h v w (sym (on_true (is_at g unit h v) (is_passed w) (stands g unit past) here) ∙ st) behind s)
    | inr away ↦
        trusted_kept a b left (entries.Verdict h v w) s g unit (verdict_spares w h v g unit away)
        (old g unit (sym (on_false (is_at g unit h v) (is_passed w) (stands g unit past) away) ∙ st))
  ]
  trusted_after (entries.Fault h v fault) behind s g unit st =
      let spare = spared (is_at g unit h (unit_of (kind_of_fault fault))) (stands g unit past) st in
      trusted_kept a b left (entries.Fault h v fault) s g unit spare.0 (old g unit spare.1)
  trusted_after (entries.Marked h k cause) behind s g unit st =
      let spare = spared (is_at g unit h (unit_of k)) (stands g unit past) st in
      trusted_kept a b left (entries.Marked h k cause) s g unit spare.0 (old g unit spare.1)
  trusted_after (entries.Switched h v root second) behind s g unit st = elim (cases_Bool (is_at g unit h v)) [
    | inl here ↦ at_place (IsTrusted b) g unit h v here (switch_trusted a b left h root second v s)
    | inr away ↦ trusted_kept a b left (entries.Switched h v root second) s g unit away (old g unit st)
  ]
  trusted_after e behind s g unit st = trusted_kept a b left e s g unit refl (old g unit st)

  pub switch_after : (e : Entry) → Step a left e b → SwitchTrusted (e ∷ past) b
  switch_after (entries.Switched h v root second) s = switch_trusted a b left h root second v s
  switch_after e s = tt

-- ---- a journal

both_after : (plan : Plan) (a b : State) (left : List Kind) (t : Told) (e : Entry) → IsSaid plan a t e → Step a left e b → AreTrusted t.past a → SwitchTrusted t.past a
    → AreTrusted (e ∷ t.past) b × SwitchTrusted (e ∷ t.past) b
both_after plan a b left t e said s old switched = (trusted_after a b left t.past old switched e said.behind s, switch_after a b left t.past old switched e s)

trusted_on : (plan : Plan) (ds : List Due) (t u : Told) (a b : State) (es : List Entry) → SaysOn plan ds t a es u b → AreTrusted t.past a × SwitchTrusted t.past a → AreTrusted u.past b
trusted_on plan [] t u a b [] h i = subst (λ (x : Told). AreTrusted x.past b) (sym h.0) (subst (AreTrusted t.past) (sym h.1) i.0)
trusted_on plan (d ∷ ds) t u a b [] h i = absurd h
trusted_on plan [] t u a b (e ∷ es) h i = trusted_on plan (dues a h.1 e h.3.decided h.2) (told_after a e t) u h.2 b es h.5 (both_after plan a h.2 h.1 t e h.0 h.3 i.0 i.1)
trusted_on plan (d ∷ ds) t u a b (e ∷ es) h i = trusted_on plan ds (told_after a e t) u h.2 b es h.4 (both_after plan a h.2 [] t e h.0 h.3 i.0 i.1)

pub past_is_journal : PastIsJournal
past_is_journal plan [] t u a b [] h = ap (λ (x : Told). x.past) h.0
past_is_journal plan (d ∷ ds) t u a b [] h = absurd h
past_is_journal plan [] t u a b (e ∷ es) h = past_is_journal plan (dues a h.1 e h.3.decided h.2) (told_after a e t) u h.2 b es h.5 ∙ sym (reverse_more e es t.past)
past_is_journal plan (d ∷ ds) t u a b (e ∷ es) h = past_is_journal plan ds (told_after a e t) u h.2 b es h.4 ∙ sym (reverse_more e es t.past)

none_stand : (a : State) → AreTrusted [] a
unfolding stands
none_stand a g unit st = absurd (false≢true st)

pub standing_is_trusted : StandingIsTrusted
standing_is_trusted plan a b es g unit l st =
    let past : l.0.past ≡ reverse es = past_is_journal plan [] nothing_told l.0 a b es l.1 ∙ append-nil (reverse es) in
    trusted_on plan [] nothing_told l.0 a b es l.1 (none_stand a, tt) g unit (ap (stands g unit) past ∙ st)
