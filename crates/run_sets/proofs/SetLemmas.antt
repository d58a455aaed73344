-- What the test of a set's runs says, and which blocks the runs of a test hold.
use Rattle.std.proofs.Common.{◌≡◌, ℕ, zero, suc, ◌+◌, ◌<◌, ◌≤◌, Bool, true, false, eqb, ◌&&◌, ◌||◌, not, List, [], ◌∷◌, refl, ap, sym, ◌∙◌, arith, inl, inr}
use Rattle.std.specs.Prelude.{nat_le, nat_lt}
use Rattle.std.proofs.lemmas.Bool.{cases_eq, cases_lt, eq-eqb, ne_eqb, le-leb, lt-ltb, lt-leb, le-ltb, true≢false, cases_Bool}
use Rattle.std.specs.List.{All}
use Rattle.std.proofs.lemmas.List.Elements.{All-cons, All-nil}
use Rattle.run_sets.specs.declared.run.Run.{Run}
use Rattle.run_sets.specs.declared.sweep.Operation.TheVariants.{Union, Difference}
use Rattle.run_sets.specs.Operation.{kept}
use Rattle.run_sets.specs.Runs.{in_front, runs_from, runs_below, is_within, holds, most, AreMaximal, EndWithin, are_maximal, IsRun}
use Rattle.run_sets.proofs.RunsLemmas.{runs_maximal}
use Rattle.run_sets.proofs.OnlyRunsLemmas.{are_runs_below, behind_false}

-- ---- the test and what it tests

le_of : (a b : ℕ) → nat_le a b ≡ true → a ≤ b
le_of a b h = elim (cases_lt b a) [
  | inl lt ↦ absurd (true≢false (sym h ∙ lt-leb a b lt))
  | inr le ↦ le
]

lt_of : (a b : ℕ) → nat_lt a b ≡ true → a < b
lt_of a b h = elim (cases_lt a b) [
  | inl lt ↦ lt
  | inr le ↦ absurd (true≢false (sym h ∙ le-ltb a b le))
]

left_of : (p q : Bool) → (p && q) ≡ true → p ≡ true
left_of true q h = refl
left_of false q h = h

right_of : (p q : Bool) → (p && q) ≡ true → q ≡ true
right_of true q h = h
right_of false q h = absurd (true≢false (sym h))

pub maximal_of : (a : ℕ) (rs : List Run) → are_maximal a rs ≡ true → AreMaximal a rs
maximal_of a [] h = tt
maximal_of a (r ∷ rs) h =
    let first = left_of (nat_le a r.start) _ h in
    let rest = right_of (nat_le a r.start) _ h in
    let some = left_of (nat_lt 0 r.count) _ rest in
    let rest' = right_of (nat_lt 0 r.count) _ rest in
    let last = right_of (nat_le (r.start + r.count) most) _ rest' in
    (le_of a r.start first, lt_of 0 r.count some, maximal_of (r.start + r.count + 1) rs last)

pub ends_of : (a : ℕ) (rs : List Run) → are_maximal a rs ≡ true → EndWithin most rs
ends_of a [] h = tt
ends_of a (r ∷ rs) h =
    let rest = right_of (nat_lt 0 r.count) _ (right_of (nat_le a r.start) _ h) in
    let end = left_of (nat_le (r.start + r.count) most) _ rest in
    let last = right_of (nat_le (r.start + r.count) most) _ rest in
    (le_of (r.start + r.count) most end, ends_of (r.start + r.count + 1) rs last)

pub passes_test : (a : ℕ) (rs : List Run) → AreMaximal a rs → EndWithin most rs → are_maximal a rs ≡ true
passes_test a [] h e = refl
passes_test a (r ∷ rs) h e =
    let first = le-leb a r.start h.0 in
    let some = lt-ltb 0 r.count h.1 in
    let end = le-leb (r.start + r.count) most e.0 in
    let rest = passes_test (r.start + r.count + 1) rs h.2 e.1 in
    rw (first, some, end, rest) refl

-- each run of a set stands for blocks
pub runs_of_maximal : (a : ℕ) (rs : List Run) → AreMaximal a rs → EndWithin most rs → All IsRun rs
runs_of_maximal a [] h e = All-nil IsRun
runs_of_maximal a (r ∷ rs) h e = All-cons IsRun r rs (record { some = h.1; within = e.0 }) (runs_of_maximal (r.start + r.count + 1) rs h.2 e.1)

-- ---- the runs of a test end within the blocks that were tested

looser : (a b : ℕ) (rs : List Run) → a ≤ b → EndWithin a rs → EndWithin b rs
looser a b [] le h = tt
looser a b (r ∷ rs) le h = (omega (arith, h.0), looser a b rs le h.1)

front_ends : (a len : ℕ) (rs : List Run) → a + 1 ≤ len → EndWithin len rs → EndWithin len (in_front a rs)
front_ends a len [] le h = (le, tt)
front_ends a len (r ∷ rs) le h = elim (cases_eq r.start (a + 1)) [
  | inl is ↦ let here : eqb r.start (a + 1) ≡ true = eq-eqb r.start (a + 1) is in rw here (omega (arith, h.0, is), h.1)
  | inr ne ↦ let here : eqb r.start (a + 1) ≡ false = ne_eqb r.start (a + 1) ne in rw here (le, h)
]

runs_end : (p : ℕ → Bool) (a n len : ℕ) → a + n ≤ len → EndWithin len (runs_from p a n)
runs_end p a zero len le = tt
runs_end p a (suc n) len le = elim (cases_Bool (p a)) [
  | inl passes ↦ rw passes (front_ends a len (runs_from p (a + 1) n) (omega (arith, le)) (runs_end p (a + 1) n len (omega (arith, le))))
  | inr fails ↦ rw fails (runs_end p (a + 1) n len (omega (arith, le)))
]

pub tested : (p : ℕ → Bool) (len : ℕ) (rs : List Run) → len ≤ most → rs ≡ runs_below p len → are_maximal 0 rs ≡ true
unfolding runs_below
tested p len rs le is = rw is (passes_test 0 (runs_below p len) (runs_maximal p 0 len) (looser len most (runs_below p len) le (runs_end p 0 len len (omega arith))))

pub holds_below : (p : ℕ → Bool) (len : ℕ) (rs : List Run) (b : ℕ) → rs ≡ runs_below p len → holds rs b ≡ (nat_lt b len && p b)
holds_below p len rs b is = ap (λ (runs : List Run). holds runs b) is ∙ (are_runs_below p len).exact b

-- no run holds a block from the end on
pub none_behind : (len : ℕ) (rs : List Run) (b : ℕ) → EndWithin len rs → len ≤ b → holds rs b ≡ false
none_behind len [] b h le = refl
none_behind len (r ∷ rs) b h le =
    let here = behind_false b r (omega (arith, h.0, le)) in
    let rest = none_behind len rs b h.1 le in
    rw (here, rest) refl

-- where what a test keeps lies below the length anyway, the length says nothing
pub all_below : (t : Bool) (b len : ℕ) → (len ≤ b → t ≡ false) → (nat_lt b len && t) ≡ t
all_below t b len none = elim (cases_lt b len) [
  | inl lt ↦ let here = lt-ltb b len lt in rw here refl
  | inr ge ↦ let here = le-ltb b len ge in let out = none ge in rw (here, out) refl
]

-- ---- both sets end within the blocks that can be kept

pub union_at : (left right : List Run) (b : ℕ) (h : Bool) → EndWithin most left → EndWithin most right → h ≡ (nat_lt b most && kept Union left right b) → h ≡ (holds left b || holds right b)
union_at left right b h in_left in_right is =
    is ∙ all_below (kept Union left right b) b most (λ ge.
    let none_left = none_behind most left b in_left ge in
    let none_right = none_behind most right b in_right ge in
    rw (none_left, none_right) refl)

pub difference_at : (left right : List Run) (b : ℕ) (h : Bool) → EndWithin most left → h ≡ (nat_lt b most && kept Difference left right b) → h ≡ (holds left b && not (holds right b))
difference_at left right b h in_left is =
    is ∙ all_below (kept Difference left right b) b most (λ ge. let none_left = none_behind most left b in_left ge in rw none_left refl)

-- a list of one run holds the run's blocks
pub one_holds : (run : Run) (b : ℕ) → holds (run ∷ []) b ≡ is_within b run
one_holds run b = or_false (is_within b run)
  where
    or_false : (t : Bool) → (t || false) ≡ t
    or_false true = refl
    or_false false = refl
