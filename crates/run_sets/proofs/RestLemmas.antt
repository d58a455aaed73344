-- The stretch that the first of the runs gives, and the runs behind it.
use Rattle.std.proofs.Common.{◌≡◌, ℕ, ◌<◌, ◌≤◌, false, List, [], ◌∷◌, get_or, refl, ◌∙◌, arith}
use Rattle.run_sets.specs.declared.run.Run.{Run}
use Rattle.run_sets.specs.Rest.{EndFrom, IsRest}
use Rattle.run_sets.specs.Runs.{holds, most, AreMaximal, EndWithin}
use Rattle.run_sets.proofs.OnlyRunsLemmas.{before}

-- a block in front of the first run lies in none
pub in_front_of_all : (a : ℕ) (rs : List Run) (e : Run) (b : ℕ) → AreMaximal a rs → b < (get_or rs 0 e).start → holds rs b ≡ false
in_front_of_all a [] e b h lt = refl
in_front_of_all a (r ∷ rs) e b h lt = before r.start (r ∷ rs) b (omega arith, h.1, h.2) lt

-- what ends behind a block ends behind an earlier one
pub ends_before : (rs : List Run) (a b : ℕ) → a ≤ b → EndFrom b rs → EndFrom a rs
ends_before [] a b le h = tt
ends_before (r ∷ rs) a b le h = omega (arith, le, h)

-- ---- the rest of the runs

-- at the first block all runs are left
pub at_first : (rs : List Run) → AreMaximal 0 rs → EndWithin most rs → IsRest rs 0 rs
at_first [] h e = record { maximal = h; ends = e; ahead = tt; same = λ b le. refl }
at_first (r ∷ rs) h e = record { maximal = h; ends = e; ahead = omega (arith, h.1); same = λ b le. refl }

-- the rest of a rest
pub rest_on : (runs rest rest' : List Run) (at next : ℕ) → IsRest runs at rest → at ≤ next → IsRest rest next rest' → IsRest runs next rest'
rest_on runs rest rest' at next h le k = record {
  maximal = k.maximal;
  ends = k.ends;
  ahead = k.ahead;
  same = λ b low. h.same b (omega (arith, le, low)) ∙ k.same b low;
}
