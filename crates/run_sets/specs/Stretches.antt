-- Stretches: runs with a value each. The maximal stretches of a function of blocks, and in how many runs a block lies.
use Rattle.std.specs.Prelude.{◌≡◌, ◌↔◌, ℕ, zero, suc, List, [], ◌∷◌, ◌+◌, ◌-◌, ◌==◌, ◌<◌, ◌≤◌, ◌&&◌, length, slice_index, min, nat_le, nat_lt, if◌then◌else◌, Option, Some, None}
use Rattle.std.specs.List.{All, count_by}
use Rattle.run_sets.specs.declared.run.Run.{Run}
use Rattle.run_sets.specs.Runs.{is_within, most, IsRun}

module _ {V : Type 0} where
  -- the value of the stretch that the block lies in, where it lies in one
  abbrev pub value_at : List (Run × V) → ℕ → Option V
  value_at [] b = None
  value_at (s ∷ ss) b = if is_within b s.0 then Some s.1 else value_at ss b

  -- the first of these doesn't go on at the block with the value
  abbrev pub StaysApart : ℕ → V → List (Run × V) → Type 0
  StaysApart end v [] = Unit {0}
  StaysApart end v (s ∷ ss) = s.0.start ≡ end → s.1 ≡ v → ⊥

  -- from a block on: no stretch is empty, each begins at the end of the one before it or later, and right there only with another value
  abbrev pub AreMaximalStretches : ℕ → List (Run × V) → Type 0
  AreMaximalStretches from [] = Unit {0}
  AreMaximalStretches from (s ∷ ss) = (from ≤ s.0.start) × (0 < s.0.count) × StaysApart (s.0.start + s.0.count) s.1 ss × AreMaximalStretches (s.0.start + s.0.count) ss

  -- the stretches are maximal, and a block has their value that it has by the function and lies below the length
  pub record AreStretchesBelow (f : ℕ → Option V) (length : ℕ) (ss : List (Run × V)) : Type 0 where
    pub maximal : AreMaximalStretches 0 ss
    pub exact : (b : ℕ) → value_at ss b ≡ (if nat_lt b length then f b else None)

  -- the run of each stretch stands for blocks
  abbrev pub AllRuns : List (Run × V) → Type 0
  AllRuns ss = All (λ s. IsRun s.0) ss

-- two such lists of one function and length are one, whatever the values are
abbrev pub OneStretchList : (V : Type 0) → Type 0
OneStretchList V = (f : ℕ → Option V) (length : ℕ) (ss others : List (Run × V)) → AreStretchesBelow f length ss → AreStretchesBelow f length others → ss ≡ others

-- the block's number, where it is at least so great
abbrev pub at_least : ℕ → (ℕ → ℕ) → ℕ → Option ℕ
at_least least f b = if nat_le least (f b) then Some (f b) else None

-- in how many of the runs the block lies
abbrev pub depth : List Run → ℕ → ℕ
depth runs b = count_by (is_within b) runs

-- the same, a number above 4,294,967,295 counting as that one
abbrev pub counted : List Run → ℕ → ℕ
counted runs b = min (depth runs b) most

-- a block with its number in front of the stretches behind it: it joins the first where that one begins just behind it with the same number
abbrev pub with_front : ℕ → ℕ → List (Run × ℕ) → List (Run × ℕ)
with_front a v [] = (record { start = a; count = 1 }, v) ∷ []
with_front a v (s ∷ ss) = if (s.0.start == a + 1) && (s.1 == v) then (record { start = a; count = s.0.count + 1 }, v) ∷ ss else (record { start = a; count = 1 }, v) ∷ s ∷ ss

-- the maximal runs of the blocks with equal numbers that are at least so great, among n blocks from a on
abbrev pub stretches_from : (ℕ → ℕ) → ℕ → ℕ → ℕ → List (Run × ℕ)
stretches_from f least a zero = []
stretches_from f least a (suc n) = if nat_le least (f a) then with_front a (f a) (stretches_from f least (a + 1) n) else stretches_from f least (a + 1) n

-- the same, among the blocks below a length
unfoldable pub stretches : (ℕ → ℕ) → ℕ → ℕ → List (Run × ℕ)
stretches f least length = stretches_from f least 0 length

-- for each function to numbers, least number and length there is such a list, and only one
abbrev pub OnlyStretches : Type 0
OnlyStretches = (f : ℕ → ℕ) (least length : ℕ) (ss : List (Run × ℕ)) → AreStretchesBelow (at_least least f) length ss ↔ (ss ≡ stretches f least length)

-- how many numbers are at most b
abbrev pub up_to : List ℕ → ℕ → ℕ
up_to numbers b = count_by (λ x. nat_le x b) numbers

-- the first n of the numbers are at most b
abbrev pub ArePassed : List ℕ → ℕ → ℕ → Type 0
ArePassed numbers n b = (n ≤ length numbers) × ((k : ℕ) → k < n → slice_index numbers k ≤ b)

-- how many of the stretches with these starts and ends are open at the block, as that is counted
abbrev pub open_at : List ℕ → List ℕ → ℕ → ℕ
open_at starts ends b = min (up_to starts b - up_to ends b) most

-- how many runs begin at the block or before it, and end there or before
abbrev pub begun : List Run → ℕ → ℕ
begun runs b = count_by (λ r. nat_le r.start b) runs

abbrev pub ended : List Run → ℕ → ℕ
ended runs b = count_by (λ r. nat_le (r.start + r.count) b) runs
