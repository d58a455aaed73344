-- Pieces that stand for the claims on a group's blocks.
use Rattle.std.specs.Prelude.{ℕ, List, map}
use Rattle.rmap_recs.specs.Runs.{HaveNext}
use Rattle.rmap_recs.specs.declared.records.RmapRec.{RmapRec}
use Rattle.rmap_recs.specs.declared.tuples.Tuple.{Tuple}
use Rattle.run_edits.specs.EditLaws.{AreUntied}
use Rattle.run_edits.specs.Pieces.{AreTuplesOf}
use Rattle.fs_state.specs.State.{State}
use Rattle.fs_state.specs.Claims.{claims}
use Rattle.fs_state.specs.Own.{tuple_of}

-- who claims which block of the group, at which offset and with which flags
abbrev pub claimed_tuples : State → ℕ → List Tuple
claimed_tuples a g = map tuple_of (claims a g)

-- no fork maps a block as written and as unwritten at one offset, and a block behind each has a number
pub record AreOrderly (ts : List Tuple) : Type 0 where
  pub untied : AreUntied ts
  pub next : HaveNext ts

-- the pieces have exactly the blocks that are claimed
pub record AreClaimed (a : State) (g : ℕ) (pieces : List RmapRec) : Type 0 where
  pub orderly : AreOrderly (claimed_tuples a g)
  pub same : AreTuplesOf (claimed_tuples a g) pieces
