-- The blocks of a run up to a place, and the runs of a set up to one of them.
use Rattle.std.proofs.Common.{◌≡◌, ℕ, zero, suc, ◌+◌, ◌-◌, ◌<◌, ◌≤◌, Bool, true, false, ◌&&◌, ◌||◌, List, [], ◌∷◌, ◌++◌, length, take, get_or, refl, sym, ◌∙◌, ap, inl, inr, arith}
use Rattle.std.specs.Prelude.{◌==◌, nat_le, nat_lt}
use Rattle.std.proofs.lemmas.Bool.{cases_lt, cases_eq, le-leb, lt-ltb, le-ltb, eq-eqb, ne_eqb, or_left}
use Rattle.std.proofs.lemmas.List.{take_more}
use Rattle.std.proofs.lemmas.List.Folds.{list_any_more, list_any_at}
use Rattle.run_sets.specs.declared.run.Run.{Run}
use Rattle.run_sets.specs.Runs.{is_within, holds, AreMaximal, EndWithin}
use Rattle.tree_claims.specs.Looks.{blocks_in, LieBelow}

pub or_none : (x : Bool) → x ≡ (x || false)
or_none true = refl
or_none false = refl

-- the blocks from one on, in front of another
abbrev pub is_between : ℕ → ℕ → ℕ → Bool
is_between low high b = nat_le low b && nat_lt b high

pub one_between_more : (low high b : ℕ) → low ≤ high → is_between low (high + 1) b ≡ (is_between low high b || (b == high))
one_between_more low high b le = elim (cases_lt b high) [
  | inl lt ↦
      let now : nat_lt b (high + 1) ≡ true = lt-ltb b (high + 1) (omega (arith, lt)) in
      let before : nat_lt b high ≡ true = lt-ltb b high lt in
      let differs : (b == high) ≡ false = ne_eqb b high (λ e. omega (arith, lt, e)) in
      rw (now, before, differs) (or_none (nat_le low b && true))
  | inr ge ↦ elim (cases_eq b high) [
    | inl is ↦
        let from : nat_le low b ≡ true = le-leb low b (omega (arith, le, is)) in
        let now : nat_lt b (high + 1) ≡ true = lt-ltb b (high + 1) (omega (arith, is)) in
        let before : nat_lt b high ≡ false = le-ltb b high ge in
        let same : (b == high) ≡ true = eq-eqb b high is in
        rw (from, now, before, same) refl
    | inr ne ↦
        let now : nat_lt b (high + 1) ≡ false = le-ltb b (high + 1) (omega (arith, ge, ne)) in
        let before : nat_lt b high ≡ false = le-ltb b high ge in
        let differs : (b == high) ≡ false = ne_eqb b high ne in
        rw (now, before, differs) (or_none (nat_le low b && false))
  ]
]

pub one_run_more : (runs : List Run) (i : ℕ) (r d : Run) (b : ℕ) → i < length runs → r ≡ get_or runs i d → holds (take (i + 1) runs) b ≡ (holds (take i runs) b || is_within b r)
one_run_more runs i r d b lt is = list_any_more (is_within b) runs i d lt ∙ ap (λ (x : Run). holds (take i runs) b || is_within b x) (sym is)

-- a run of blocks that all lie below a length ends there
pub run_ends : (runs : List Run) (len i : ℕ) (r d : Run) → AreMaximal 0 runs → LieBelow len (holds runs) → i < length runs → r ≡ get_or runs i d → r.start + r.count ≤ len
run_ends runs len i r d max below lt is = elim (cases_lt 0 r.count) [
  | inl some ↦
      let last = r.start + (r.count - 1) in
      let low : nat_le r.start last ≡ true = le-leb r.start last (omega arith) in
      let high : nat_lt last (r.start + r.count) ≡ true = lt-ltb last (r.start + r.count) (omega (arith, some)) in
      let within : is_within last r ≡ true = rw (low, high) refl in
      let held : holds runs last ≡ true = list_any_at (is_within last) runs i d lt (ap (is_within last) (sym is) ∙ within) in
      omega (arith, below last held, some)
  | inr none ↦ absurd (omega (arith, none, counted runs 0 i r d max lt is))
]
  where
    counted : (rs : List Run) (a i : ℕ) (r d : Run) → AreMaximal a rs → i < length rs → r ≡ get_or rs i d → 0 < r.count
    counted [] a i r d h lt is = absurd (omega (arith, lt))
    counted (x ∷ xs) a zero r d h lt is = let e : r.count ≡ x.count = ap (λ (y : Run). y.count) is in omega (arith, h.1, e)
    counted (x ∷ xs) a (suc i) r d h lt is = counted xs (x.start + x.count + 1) i r d h.2 (omega (arith, lt)) is

pub runs_end : (rs : List Run) (a len : ℕ) → AreMaximal a rs → LieBelow len (holds rs) → EndWithin len rs
runs_end [] a len h below = tt
runs_end (r ∷ rs) a len h below = (first, runs_end rs (r.start + r.count + 1) len h.2 (λ b held. below b (or_last (is_within b r) (holds rs b) held)))
  where
    or_last : (s t : Bool) → t ≡ true → (s || t) ≡ true
    or_last true t e = refl
    or_last false t e = e

    first : r.start + r.count ≤ len
    first =
        let last = r.start + (r.count - 1) in
        let low : nat_le r.start last ≡ true = le-leb r.start last (omega arith) in
        let high : nat_lt last (r.start + r.count) ≡ true = lt-ltb last (r.start + r.count) (omega (arith, h.1)) in
        let within : is_within last r ≡ true = rw (low, high) refl in
        omega (arith, below last (or_left (is_within last r) (holds rs last) within), h.1)

blocks_append : (xs ys : List Run) → blocks_in (xs ++ ys) ≡ blocks_in xs + blocks_in ys
blocks_append [] ys = omega arith
blocks_append (x ∷ xs) ys = omega (arith, blocks_append xs ys)

pub blocks_more : (runs : List Run) (i : ℕ) (r d : Run) → i < length runs → r ≡ get_or runs i d → blocks_in (take (i + 1) runs) ≡ blocks_in (take i runs) + r.count
blocks_more runs i r d lt is =
    let one : blocks_in (get_or runs i d ∷ []) ≡ r.count = ap (λ (x : Run). x.count + 0) (sym is) ∙ omega arith in
    ap blocks_in (take_more runs i d lt) ∙ (blocks_append (take i runs) (get_or runs i d ∷ []) ∙ ap (λ (n : ℕ). blocks_in (take i runs) + n) one)

pub blocks_front : (runs : List Run) (i : ℕ) → blocks_in (take i runs) ≤ blocks_in runs
blocks_front [] zero = omega arith
blocks_front [] (suc i) = omega arith
blocks_front (r ∷ rs) zero = omega arith
blocks_front (r ∷ rs) (suc i) = omega (arith, blocks_front rs i)

blocks_from : (rs : List Run) (a len : ℕ) → AreMaximal a rs → EndWithin len rs → blocks_in rs ≤ len - a
blocks_from [] a len h e = omega arith
blocks_from (r ∷ rs) a len h e = omega (arith, blocks_from rs (r.start + r.count + 1) len h.2 e.1, h.0, e.0)

-- runs below a length have no more blocks than it
pub blocks_most : (runs : List Run) (len : ℕ) → AreMaximal 0 runs → LieBelow len (holds runs) → blocks_in runs ≤ len
blocks_most runs len max below = omega (arith, blocks_from runs 0 len max (runs_end runs 0 len max below))
