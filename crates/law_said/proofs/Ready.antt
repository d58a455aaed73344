-- What was ready has the units judged that it needs.
use Rattle.std.proofs.Common.{◌≡◌, ℕ, ◌<◌, true, List, [], ◌∷◌, map, refl, inl, inr, Option, Some, None, is_none, arith}
use Rattle.std.proofs.lemmas.Bool.{false≢true, or_cases}
use Rattle.fs_state.specs.Lists.{numbers}
use Rattle.fs_state.specs.Session.{Place, first_fallen, first_unready, needed}
use Rattle.fs_model.specs.declared.entry.Entry.{Entry}
use Rattle.fs_model.specs.declared.entry.Entry.TheVariants as entries
use Rattle.fs_model.specs.declared.unit.Unit.{Unit as ScrubUnit}
use Rattle.fs_model.specs.declared.unit.Unit.TheVariants as units
use Rattle.fs_said.specs.Said.{was_ready}
use Rattle.law_said.proofs.Places.{in_one, judged_more, none_fallen, stands_judged}
use Rattle.law_said.specs.InTime.{was_judged}

-- the units of its own group that it needs were judged
abbrev pub Needs : ℕ → ScrubUnit → List Entry → Type 0
Needs g units.Inode past = Unit {0}
Needs g units.Rmap past = was_judged g units.Inode past ≡ true
Needs g units.Free past = was_judged g units.Rmap past ≡ true
Needs g units.Refc past = was_judged g units.Rmap past ≡ true

pub needs_more : (g : ℕ) (u : ScrubUnit) (e : Entry) (past : List Entry) → Needs g u past → Needs g u (e ∷ past)
needs_more g units.Inode e past h = tt
needs_more g units.Rmap e past h = judged_more g units.Inode e past h
needs_more g units.Free e past h = judged_more g units.Rmap e past h
needs_more g units.Refc e past h = judged_more g units.Rmap e past h

none_of : (o : Option Place) → is_none o ≡ true → o ≡ None
none_of None h = refl
none_of (Some p) h = absurd (false≢true h)

ready_now : (n g : ℕ) (u : ScrubUnit) (past : List Entry) → g < n → is_none (first_unready n past g u) ≡ true → Needs g u past
unfolding first_unready needed
ready_now n g units.Inode past lt h = tt
ready_now n g units.Rmap past lt h =
    stands_judged g units.Inode past (in_one past units.Inode n 0 g (none_of (first_fallen past (map (λ i. (i, units.Inode)) (numbers 0 n))) h) (omega arith) (omega (arith, lt)))
ready_now n g units.Free past lt h = stands_judged g units.Rmap past (none_fallen past (g, units.Rmap) [] (none_of (first_fallen past ((g, units.Rmap) ∷ [])) h)).0
ready_now n g units.Refc past lt h = stands_judged g units.Rmap past (none_fallen past (g, units.Rmap) [] (none_of (first_fallen past ((g, units.Rmap) ∷ [])) h)).0

-- at whichever moment since the last verdict
pub ready_needs : (n g : ℕ) (u : ScrubUnit) (past : List Entry) → g < n → was_ready n g u past ≡ true → Needs g u past
unfolding was_ready
ready_needs n g u [] lt h = ready_now n g u [] lt h
ready_needs n g u (entries.Verdict i v w ∷ past) lt h = ready_now n g u (entries.Verdict i v w ∷ past) lt h
ready_needs n g u (e ∷ past) lt h = elim (or_cases (is_none (first_unready n (e ∷ past) g u)) (was_ready n g u past) h) [
  | inl now ↦ ready_now n g u (e ∷ past) lt now
  | inr before ↦ needs_more g u e past (ready_needs n g u past lt before)
]
