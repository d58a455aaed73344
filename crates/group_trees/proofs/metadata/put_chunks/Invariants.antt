use Rattle.std.proofs.Common.{◌≡◌, ◌++◌, map, take}
use Rattle.unit_plan.specs.Sets.{pieces_of}
use Rattle.group_trees.specs.Metadata.{chunk_piece}
use Rattle.group_trees.proofs.metadata.put_chunks.Given as goal

-- the chunks so far
abbrev pub invariant-loop-unit : goal.invariant-loop-unit
invariant-loop-unit l = pieces_of l.set ≡ pieces_of l.fn.set ++ map chunk_piece (take l.unit-index l.chunks)
