-- The open chains, and what they owe a group ("Intent Drains").
use Rattle.std.specs.Prelude.{ℕ, List, Option, Some, None, sum_by}
use Rattle.std.specs.List.{slice_get}
use Rattle.defer_chain.specs.Owed.{owed}
use Rattle.defer_chain.specs.Steps.{owed_to}
use Rattle.defer_chain.specs.declared.chain.Chain.{Chain}

-- the unfinished intents of a group that the chain of one place has
abbrev pub owed_by : ℕ → Option Chain → ℕ
owed_by g None = 0
owed_by g (Some c) = owed_to g (owed c)

-- How many unfinished intents of a group do all chains have?
unfoldable pub count_in : ℕ → List (Option Chain) → ℕ
count_in g cs = sum_by (owed_by g) cs

-- the chain of this number
abbrev pub at_most_one : Option (Option Chain) → Option Chain
at_most_one None = None
at_most_one (Some c) = c

abbrev pub chain_at : List (Option Chain) → ℕ → Option Chain
chain_at cs n = at_most_one (slice_get cs n)
