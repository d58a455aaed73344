-- The units that are seen next, and those behind them.
use Rattle.std.proofs.Common.{◌≡◌, ℕ, zero, suc, ◌+◌, ◌-◌, ◌/◌, ◌^◌, ◌≤◌, ◌<◌, List, [], ◌∷◌, ◌++◌, length, map, refl, sym, subst, ◌∙◌, ap, arith, append_assoc}
use Rattle.std.specs.Prelude.{slice_index_or}
use Rattle.std.proofs.lemmas.List.{append-nil, map-append}
use Rattle.fs_state.specs.Lists.{numbers}
use Rattle.fs_state.specs.Kinds.{Image}
use Rattle.geom.specs.Layout.{Layout}
use Rattle.inode_pass.specs.Units.{AreSeen, unit_numbers, units_in}
use Rattle.inode_pass.specs.declared.unit.UnitSeen.{UnitSeen}
use Rattle.run_sets.specs.Runs.{EndWithin, most}
use Rattle.run_sets.specs.declared.run.Run.{Run}
use Rattle.core_units.specs.Cores.{SeesNext, units_behind, units_left}
use Rattle.core_units.specs.declared.cores.UnitPlace.{UnitPlace}

numbers_split : (a n m : ℕ) → numbers a (n + m) ≡ numbers a n ++ numbers (a + n) m
numbers_split a zero m = let e : 0 + m ≡ m = omega arith in let f : a ≡ a + 0 = omega arith in ap (numbers a) e ∙ ap (λ (b : ℕ). numbers b m) f
numbers_split a (suc n) m =
    let e : suc n + m ≡ suc (n + m) = omega arith in
    let f : a + 1 + n ≡ a + suc n = omega arith in
    ap (numbers a) e ∙ ap (λ (l : List ℕ). a ∷ l) (numbers_split (a + 1) n m ∙ ap (λ (b : ℕ). numbers (a + 1) n ++ numbers b m) f)

-- from the front of a run on, all of it and what is behind it
pub from_front : (units : List Run) → units_behind units zero zero ≡ units_in units
from_front [] = refl
from_front (r ∷ rs) =
    let e : r.start + 0 ≡ r.start = omega arith in
    let f : r.count - 0 ≡ r.count = omega arith in
    ap (λ (a : ℕ). numbers a (r.count - 0) ++ units_in rs) e ∙ ap (λ (n : ℕ). numbers r.start n ++ units_in rs) f

-- so many of the run at the place, and others of it are left
run_left : (units : List Run) (run passed n : ℕ) (r d : Run) → run < length units → r ≡ slice_index_or units run d → passed + n ≤ r.count → units_behind units run passed ≡ numbers (r.start + passed) n ++ units_behind units run (passed + n)
run_left [] run passed n r d lt e le = absurd (omega (arith, lt))
run_left (q ∷ qs) zero passed n r d lt e le =
    let few : passed + n ≤ q.count = subst (λ (s : Run). passed + n ≤ s.count) e le in
    let k : q.count - passed ≡ n + (q.count - (passed + n)) = omega (arith, few) in
    let place : q.start + passed + n ≡ q.start + (passed + n) = omega arith in
    ap (λ (m : ℕ). numbers (q.start + passed) m ++ units_in qs) k
    ∙ (ap (λ (l : List ℕ). l ++ units_in qs) (numbers_split (q.start + passed) n (q.count - (passed + n)) ∙ ap (λ (b : ℕ). numbers (q.start + passed) n ++ numbers b (q.count - (passed + n))) place)
    ∙ (append_assoc (numbers (q.start + passed) n) (numbers (q.start + (passed + n)) (q.count - (passed + n))) (units_in qs)
    ∙ ap (λ (s : Run). numbers (s.start + passed) n ++ units_behind (q ∷ qs) zero (passed + n)) (sym e)))
run_left (q ∷ qs) (suc run) passed n r d lt e le = run_left qs run passed n r d (omega (arith, lt)) e le

-- where none of the run is left, it goes on with the next one
run_ended : (units : List Run) (run passed : ℕ) (r d : Run) → run < length units → r ≡ slice_index_or units run d → r.count ≤ passed → units_behind units run passed ≡ units_behind units (run + 1) zero
run_ended [] run passed r d lt e le = absurd (omega (arith, lt))
run_ended (q ∷ qs) zero passed r d lt e le =
    let few : q.count ≤ passed = subst (λ (s : Run). s.count ≤ passed) e le in
    let z : q.count - passed ≡ 0 = omega (arith, few) in
    ap (λ (m : ℕ). numbers (q.start + passed) m ++ units_in qs) z ∙ sym (from_front qs)
run_ended (q ∷ qs) (suc run) passed r d lt e le =
    let next : suc run + 1 ≡ suc (run + 1) = omega arith in
    run_ended qs run passed r d (omega (arith, lt)) e le ∙ ap (λ (k : ℕ). units_behind (q ∷ qs) k zero) (sym next)

-- behind the last run none is left
pub none_left : (units : List Run) (run passed : ℕ) → length units ≤ run → units_behind units run passed ≡ []
none_left [] run passed le = refl
none_left (q ∷ qs) zero passed le = absurd (omega (arith, le))
none_left (q ∷ qs) (suc run) passed le = none_left qs run passed (omega (arith, le))

pub ends : (units : List Run) (run n : ℕ) (r d : Run) → run < length units → r ≡ slice_index_or units run d → EndWithin n units → r.start + r.count ≤ n
ends [] run n r d lt e within = absurd (omega (arith, lt))
ends (q ∷ qs) zero n r d lt e within = subst (λ (s : Run). s.start + s.count ≤ n) (sym e) within.0
ends (q ∷ qs) (suc run) n r d lt e within = ends qs run n r d (omega (arith, lt)) e within.1

pub sees_nothing : (units : List Run) (at : UnitPlace) (r d : Run) → at.run < length units → r ≡ slice_index_or units at.run d → r.count ≤ at.passed → SeesNext units at (record { start = r.start; count = 0 }) (record { run = at.run + 1; passed = 0 })
sees_nothing units at r d lt e le = record {
  next = run_ended units at.run at.passed r d lt e le;
  few = omega arith;
  inside = λ n within. let end = ends units at.run n r d lt e within in omega (arith, end);
}

pub sees_here : (units : List Run) (at : UnitPlace) (r d : Run) (k : ℕ) → at.run < length units → r ≡ slice_index_or units at.run d → at.passed + k ≤ r.count → k ≤ 100 → SeesNext units at (record { start = r.start + at.passed; count = k }) (record { run = at.run; passed = at.passed + k })
sees_here units at r d k lt e le few = record {
  next = run_left units at.run at.passed k r d lt e le;
  few = few;
  inside = λ n within. let end = ends units at.run n r d lt e within in omega (arith, end, le);
}

pub sees_last : (units : List Run) (at : UnitPlace) (r d : Run) (k : ℕ) → at.run < length units → r ≡ slice_index_or units at.run d → at.passed + k ≡ r.count → k ≤ 100 → SeesNext units at (record { start = r.start + at.passed; count = k }) (record { run = at.run + 1; passed = 0 })
sees_last units at r d k lt e all few =
    let le : at.passed + k ≤ r.count = omega (arith, all) in
    let ge : r.count ≤ at.passed + k = omega (arith, all) in
    record {
      next = run_left units at.run at.passed k r d lt e le ∙ ap (λ (l : List ℕ). numbers (r.start + at.passed) k ++ l) (run_ended units at.run (at.passed + k) r d lt e ge);
      few = few;
      inside = λ n within. let end = ends units at.run n r d lt e within in omega (arith, end, le);
    }

-- what was seen, and what is left behind it
pub left_on : (units : List Run) (at behind : UnitPlace) (run : Run) (old found new : List UnitSeen) → SeesNext units at run behind → unit_numbers found ≡ units_in (run ∷ []) → new ≡ old ++ found → unit_numbers new ++ units_left units behind ≡ unit_numbers old ++ units_left units at
left_on units at behind run old found new sees seen are =
    let one : unit_numbers found ≡ numbers run.start run.count = seen ∙ append-nil (numbers run.start run.count) in
    ap (λ (l : List UnitSeen). unit_numbers l ++ units_left units behind) are
    ∙ (ap (λ (l : List ℕ). l ++ units_left units behind) (map-append (λ (s : UnitSeen). s.cores.unit) old found)
    ∙ (append_assoc (unit_numbers old) (unit_numbers found) (units_left units behind)
    ∙ ap (λ (l : List ℕ). unit_numbers old ++ l) (ap (λ (l : List ℕ). l ++ units_left units behind) one ∙ sym sees.next)))

pub seen_on : (at : Layout) (image : Image) (g : ℕ) (old found : List UnitSeen) → AreSeen at image g old → AreSeen at image g found → AreSeen at image g (old ++ found)
seen_on at image g [] found h k = k
seen_on at image g (s ∷ old) found h k = (h.0, seen_on at image g old found h.1 k)

pub within_most : (len : ℕ) (units : List Run) → len < 2 ^ 32 → EndWithin (len / 8) units → EndWithin most units
within_most len [] few h = tt
within_most len (r ∷ rs) few h = let end = h.0 in (omega (arith, end, few), within_most len rs few h.1)
