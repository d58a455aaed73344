-- The faults that a session says of a unit are those of one state.
use Rattle.std.proofs.Common.{◌≡◌, ℕ, ◌+◌, ◌==◌, ◌&&◌, Bool, true, false, List, [], ◌∷◌, ◌++◌, length, drop, subst, refl, sym, ap, ◌∙◌, if◌then◌else◌, eqb-true, arith}
use Rattle.std.proofs.lemmas.Bool.{and_parts, true≢false}
use Rattle.std.proofs.lemmas.List.{append_assoc, length_push}
use Rattle.fs_model.specs.declared.entry.Entry.{Entry}
use Rattle.fs_model.specs.declared.entry.Entry.TheVariants as entries
use Rattle.fs_model.specs.declared.fault.Fault.{Fault}
use Rattle.fs_model.specs.declared.unit.Unit.{Unit as ScrubUnit}
use Rattle.fs_model.specs.declared.unit.Unit.TheVariants as units
use Rattle.fs_state.specs.State.{State}
use Rattle.fs_state.specs.Faults.{faults}
use Rattle.fs_state.specs.Session.{is_at, is_same_unit}
use Rattle.fs_state.specs.declared.plan.Plan.{Plan}
use Rattle.fs_change.specs.Marks.{Due, dues}
use Rattle.fs_said.specs.Laws.{found_since, AreFound, FaultsAreFound}
use Rattle.fs_said.specs.Said.{Stage, Unbegun, Begun, Told, nothing_told, told_after, left_to_say, count_said, SaysSo, SaysOn}

-- ---- the unit of which an entry speaks

same_unit : (u v : ScrubUnit) → is_same_unit u v ≡ true → v ≡ u
same_unit units.Inode units.Inode h = refl
same_unit units.Rmap units.Rmap h = refl
same_unit units.Free units.Free h = refl
same_unit units.Refc units.Refc h = refl
same_unit u v h = absurd (true≢false (sym h))

pub same_place : (g : ℕ) (u : ScrubUnit) (h : ℕ) (v : ScrubUnit) → is_at g u h v ≡ true → (h ≡ g) × (v ≡ u)
same_place g u h v at =
    let p = and_parts (h == g) (is_same_unit u v) at in
    (eqb-true h g p.0, same_unit u v p.1)

-- what is said of a place is said of the same place by its other name
at_place : (P : ℕ → ScrubUnit → Type 0) (g : ℕ) (u : ScrubUnit) (h : ℕ) (v : ScrubUnit) → is_at g u h v ≡ true → P h v → P g u
at_place P g u h v at p =
    let s = same_place g u h v at in
    subst (λ w. P g w) s.1 (subst (λ i. P i v) s.0 p)

by_test : (g : ℕ) (unit : ScrubUnit) (x : Bool) (p q : List Fault) (r s : Stage) → (x ≡ true → AreFound g unit p r) → AreFound g unit q s → AreFound g unit (if x then p else q) (if x then r else s)
by_test g unit x p q r s held kept =
    elim x as (λ z. (z ≡ true → AreFound g unit p r) → AreFound g unit (if z then p else q) (if z then r else s)) [ true ↦ λ all. all refl | false ↦ λ all. kept ] held

-- ---- one entry

module _ (g : ℕ) (unit : ScrubUnit) (a : State) where
  -- a fault more
  one_more : (found : List Fault) (s : Stage) (f : Fault) (rest : List Fault) → left_to_say a g unit s ≡ f ∷ rest → AreFound g unit found s
      → AreFound g unit (found ++ f ∷ []) (Begun (1 + count_said s) (drop 1 (left_to_say a g unit s)))
  one_more found Unbegun f rest next none =
      (ap (λ l. length (l ++ f ∷ [])) (sym none), a, next ∙ ap (λ l. f ∷ drop 1 l) (sym next) ∙ ap (λ l. l ++ f ∷ [] ++ drop 1 (faults a g unit)) (sym none))
  one_more found (Begun count left) f rest next there = (
    ap (λ n. 1 + n) there.0 ∙ (omega arith) ∙ sym (length_push found f),
    there.1,
    there.2 ∙ ap (λ l. found ++ l) (next ∙ ap (λ l. f ∷ drop 1 l) (sym next)) ∙ sym (append_assoc found (f ∷ []) (drop 1 left)),
  )

  -- no fault more
  none_more : (found : List Fault) (s : Stage) → AreFound g unit found s → AreFound g unit found (Begun (count_said s) (left_to_say a g unit s))
  none_more found Unbegun none = (ap length (sym none), a, ap (λ l. l ++ faults a g unit) (sym none))
  none_more found (Begun count left) there = there

  abbrev Found : Told → Type 0
  Found t = AreFound g unit (found_since g unit t.past) (t.stage g unit)

  next_fault : (t : Told) (h : ℕ) (u : ScrubUnit) (f : Fault) (rest : List Fault) → left_to_say a h u (t.stage h u) ≡ f ∷ rest → Found t → Found (told_after a (entries.Fault h u f) t)
  unfolding found_since
  next_fault t h u f rest next i =
      by_test g unit (is_at g unit h u) (found_since g unit t.past ++ f ∷ []) (found_since g unit t.past) (Begun (1 + count_said (t.stage g unit)) (drop 1 (left_to_say a g unit (t.stage g unit)))) (t.stage g unit)
      (λ at. one_more (found_since g unit t.past) (t.stage g unit) f rest (at_place (λ j v. left_to_say a j v (t.stage j v) ≡ f ∷ rest) g unit h u at next) i) i

  if_same : (x : Bool) (p : List Fault) (r s : Stage) → AreFound g unit p r → AreFound g unit p s → AreFound g unit p (if x then r else s)
  if_same x p r s held kept = elim x as (λ z. AreFound g unit p (if z then r else s)) [ true ↦ held | false ↦ kept ]

  found_after : (plan : Plan) (t : Told) (e : Entry) → SaysSo plan a t e → Found t → Found (told_after a e t)
  unfolding found_since
  found_after plan t (entries.Fault h u f) so i = next_fault t h u f so.1 so.2 i
  found_after plan t (entries.Reserved h u b spare) so i =
      if_same (is_at g unit h u) (found_since g unit t.past) (Begun (count_said (t.stage g unit)) (left_to_say a g unit (t.stage g unit))) (t.stage g unit) (none_more (found_since g unit t.past) (t.stage g unit) i) i
  found_after plan t (entries.Switched h u root second) so i =
      if_same (is_at g unit h u) (found_since g unit t.past) (Begun (count_said (t.stage g unit)) (left_to_say a g unit (t.stage g unit))) (t.stage g unit) (none_more (found_since g unit t.past) (t.stage g unit) i) i
  found_after plan t (entries.Verdict h u v) so i = by_test g unit (is_at g unit h u) [] (found_since g unit t.past) Unbegun (t.stage g unit) (λ at. refl) i
  found_after plan t (entries.Released h u) so i = by_test g unit (is_at g unit h u) [] (found_since g unit t.past) Unbegun (t.stage g unit) (λ at. refl) i
  found_after plan t e so i = i

-- ---- a journal

found_on : (plan : Plan) (ds : List Due) (t u : Told) (a b : State) (es : List Entry) (g : ℕ) (unit : ScrubUnit) → SaysOn plan ds t a es u b
    → AreFound g unit (found_since g unit t.past) (t.stage g unit) → AreFound g unit (found_since g unit u.past) (u.stage g unit)
found_on plan [] t u a b [] g unit h i = subst (λ x. AreFound g unit (found_since g unit x.past) (x.stage g unit)) (sym h.0) i
found_on plan (d ∷ ds) t u a b [] g unit h i = absurd h
found_on plan [] t u a b (e ∷ es) g unit h i = found_on plan (dues a h.1 e h.3.decided h.2) (told_after a e t) u h.2 b es g unit h.5 (found_after g unit a plan t e h.0.so i)
found_on plan (d ∷ ds) t u a b (e ∷ es) g unit h i = found_on plan ds (told_after a e t) u h.2 b es g unit h.4 (found_after g unit a plan t e h.0.so i)

pub faults_are_found : FaultsAreFound
unfolding found_since
faults_are_found plan t a b es g unit h = found_on plan [] nothing_told t a b es g unit h refl
