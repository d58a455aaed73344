-- The runs that a sweep over the blocks has found so far.
use Rattle.std.proofs.Common.{◌≡◌, ℕ, ◌-◌, ◌<◌, ◌≤◌, Bool, true, false, List, [], ◌∷◌, ◌++◌, refl, ap, sym, ◌∙◌, arith, append_assoc, inl, inr}
use Rattle.std.proofs.lemmas.Bool.{cases_lt}
use Rattle.std.proofs.lemmas.List.{append-nil}
use Rattle.run_sets.specs.declared.run.Run.{Run}
use Rattle.run_sets.specs.declared.sweep.Operation.{Operation}
use Rattle.run_sets.specs.Operation.{joined, kept}
use Rattle.run_sets.specs.Runs.{holds, runs_from, runs_below}
use Rattle.run_sets.proofs.RunsLemmas.{runs_behind, runs_after_stretch, runs_after_skip}

-- a found run joins those that were found
appended : (old new rest all found : List Run) (r : Run) → found ≡ r ∷ rest → old ++ found ≡ all → new ≡ old ++ r ∷ [] → new ++ rest ≡ all
appended old new rest all found r next so_far more =
    rw more (append_assoc old (r ∷ []) rest ∙ (ap (λ (rs : List Run). old ++ rs) (sym next) ∙ so_far))

-- the blocks from start on passed, and those from at on don't: a run is found
pub turn_off : (p : ℕ → Bool) (start at next len : ℕ) (old new all : List Run) → start < at → at < next → next ≤ len
    → ((b : ℕ) → start ≤ b → b < at → p b ≡ true) → ((b : ℕ) → at ≤ b → b < next → p b ≡ false)
    → old ++ runs_from p start (len - start) ≡ all → new ≡ old ++ record { start = start; count = at - start } ∷ []
    → new ++ runs_from p next (len - next) ≡ all
turn_off p start at next len old new all gap on within passes fails so_far more =
    let found = runs_after_stretch p start at len gap (omega (arith, on, within)) passes (runs_behind p at (len - at) (fails at (omega arith) on)) in
    let rest = runs_after_skip p at next len (omega (arith, on)) within fails in
    let both = found ∙ ap (λ (runs : List Run). record { start = start; count = at - start } ∷ runs) rest in
    appended old new (runs_from p next (len - next)) all (runs_from p start (len - start)) (record { start = start; count = at - start }) both so_far more

-- nothing was open, and the blocks don't pass
pub stay_off : (p : ℕ → Bool) (start at next len : ℕ) (old all : List Run) → start ≤ at → at ≤ start → at < next → next ≤ len
    → ((b : ℕ) → at ≤ b → b < next → p b ≡ false) → old ++ runs_from p start (len - start) ≡ all → old ++ runs_from p next (len - next) ≡ all
stay_off p start at next len old all le ge on within fails so_far =
    let rest = runs_after_skip p start next len (omega (arith, on, ge, le)) within (λ b low high. fails b (omega (arith, low, ge)) high) in
    ap (λ (runs : List Run). old ++ runs) (sym rest) ∙ so_far

-- what passed goes on
pub stay_on : (p : ℕ → Bool) (start at next : ℕ) → ((b : ℕ) → start ≤ b → b < at → p b ≡ true) → ((b : ℕ) → at ≤ b → b < next → p b ≡ true)
    → ((b : ℕ) → start ≤ b → b < next → p b ≡ true)
stay_on p start at next front back b low high = elim (cases_lt b at) [
  | inl lt ↦ front b low lt
  | inr ge ↦ back b ge high
]

pub at_start : (p : ℕ → Bool) (len : ℕ) (old : List Run) → old ≡ [] → old ++ runs_from p 0 (len - 0) ≡ runs_below p len
unfolding runs_below
at_start p len old none = let whole : len - 0 ≡ len = omega arith in rw (none, whole) refl

pub last_run : (p : ℕ → Bool) (start len : ℕ) (old new all : List Run) → start < len → ((b : ℕ) → start ≤ b → b < len → p b ≡ true)
    → old ++ runs_from p start (len - start) ≡ all → new ≡ old ++ record { start = start; count = len - start } ∷ [] → new ≡ all
last_run p start len old new all lt passes so_far more =
    let none : len - len ≡ 0 = omega arith in
    let over : runs_from p len (len - len) ≡ [] = rw none refl in
    let found = runs_after_stretch p start len len lt (omega arith) passes (rw over tt) in
    let next : runs_from p start (len - start) ≡ record { start = start; count = len - start } ∷ [] = found ∙ ap (λ (runs : List Run). record { start = start; count = len - start } ∷ runs) over in
    sym (append-nil new) ∙ appended old new [] all (runs_from p start (len - start)) (record { start = start; count = len - start }) next so_far more

pub nothing_left : (p : ℕ → Bool) (start len : ℕ) (old all : List Run) → len ≤ start → old ++ runs_from p start (len - start) ≡ all → old ≡ all
nothing_left p start len old all le so_far =
    let none : len - start ≡ 0 = omega (arith, le) in
    let over : runs_from p start (len - start) ≡ [] = rw none refl in
    sym (append-nil old) ∙ (ap (λ (runs : List Run). old ++ runs) (sym over) ∙ so_far)

-- a block of a stretch of both lists is kept as the stretch is
pub kept_at : (operation : Operation) (left right : List Run) (b : ℕ) (l r t : Bool) → holds left b ≡ l → holds right b ≡ r → t ≡ joined operation l r → t ≡ false → kept operation left right b ≡ false
kept_at operation left right b l r t is_left is_right is off = rw (is_left, is_right) (sym is ∙ off)

pub kept_on : (operation : Operation) (left right : List Run) (b : ℕ) (l r t : Bool) → holds left b ≡ l → holds right b ≡ r → t ≡ joined operation l r → t ≡ true → kept operation left right b ≡ true
kept_on operation left right b l r t is_left is_right is on = rw (is_left, is_right) (sym is ∙ on)
