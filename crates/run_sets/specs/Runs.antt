-- Runs of blocks, and the maximal runs of the blocks that pass a test.
use Rattle.std.specs.Prelude.{◌≡◌, ◌↔◌, ℕ, zero, suc, Bool, true, List, [], ◌∷◌, ◌+◌, ◌==◌, ◌<◌, ◌≤◌, ◌&&◌, nat_lt, nat_le, if◌then◌else◌}
use Rattle.std.specs.List.{list_any}
use Rattle.run_sets.specs.declared.run.Run.{Run}

-- no run ends behind this block
abbrev pub most : ℕ
most = 4294967295

-- a run that stands for blocks
pub record IsRun (run : Run) : Type 0 where
  pub some : 0 < run.count
  pub within : run.start + run.count ≤ most

-- the block lies in the run
abbrev pub is_within : ℕ → Run → Bool
is_within b r = nat_le r.start b && nat_lt b (r.start + r.count)

-- the block lies in one of the runs
abbrev pub holds : List Run → ℕ → Bool
holds runs b = list_any (is_within b) runs

-- from a block on: no run is empty, and between two there is a gap
abbrev pub AreMaximal : ℕ → List Run → Type 0
AreMaximal from [] = Unit {0}
AreMaximal from (r ∷ rs) = (from ≤ r.start) × (0 < r.count) × AreMaximal (r.start + r.count + 1) rs

-- no run ends behind the length
abbrev pub EndWithin : ℕ → List Run → Type 0
EndWithin length [] = Unit {0}
EndWithin length (r ∷ rs) = (r.start + r.count ≤ length) × EndWithin length rs

-- both of them, as a test
abbrev pub are_maximal : ℕ → List Run → Bool
are_maximal from [] = true
are_maximal from (r ∷ rs) = nat_le from r.start && (nat_lt 0 r.count && (nat_le (r.start + r.count) most && are_maximal (r.start + r.count + 1) rs))

-- a block in front of the runs behind it: it joins the first where that one begins just behind it
abbrev pub in_front : ℕ → List Run → List Run
in_front a [] = record { start = a; count = 1 } ∷ []
in_front a (r ∷ rs) = if r.start == a + 1 then record { start = a; count = r.count + 1 } ∷ rs else record { start = a; count = 1 } ∷ r ∷ rs

-- the maximal runs of the blocks that pass, among n blocks from a on
abbrev pub runs_from : (ℕ → Bool) → ℕ → ℕ → List Run
runs_from p a zero = []
runs_from p a (suc n) = if p a then in_front a (runs_from p (a + 1) n) else runs_from p (a + 1) n

-- the maximal runs of the blocks below a length that pass
unfoldable pub runs_below : (ℕ → Bool) → ℕ → List Run
runs_below p length = runs_from p 0 length

-- the runs have a gap between two, and in them lie exactly the blocks below the length that pass
pub record AreRunsBelow (p : ℕ → Bool) (length : ℕ) (runs : List Run) : Type 0 where
  pub maximal : AreMaximal 0 runs
  pub exact : (b : ℕ) → holds runs b ≡ (nat_lt b length && p b)

-- for each test and length there is such a list, and only one
abbrev pub OnlyRuns : Type 0
OnlyRuns = (p : ℕ → Bool) (length : ℕ) (runs : List Run) → AreRunsBelow p length runs ↔ (runs ≡ runs_below p length)

-- the runs have a gap between two, and in them lie exactly the blocks that pass
pub record AreRunsOf (p : ℕ → Bool) (runs : List Run) : Type 0 where
  pub maximal : AreMaximal 0 runs
  pub within : EndWithin most runs
  pub exact : (b : ℕ) → holds runs b ≡ p b

-- two such lists of the same blocks are one
abbrev pub OneList : Type 0
OneList = (p : ℕ → Bool) (runs others : List Run) → AreRunsOf p runs → AreRunsOf p others → runs ≡ others
