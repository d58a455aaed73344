use Rattle.std.proofs.Common.{map}
use Rattle.derive_defs.specs.Mappings.{blocks_of}
use Rattle.unit_plan.specs.Spans.{Stands, left, looked_run, span_run}
use Rattle.unit_plan.proofs.spare.lowest_outside.Given as goal

-- no block in front passes, and what is left holds what all hold from there on
abbrev pub invariant-loop-at : goal.invariant-loop-at
invariant-loop-at l = Stands (map span_run l.free) (map blocks_of l.mappings) (map (looked_run l.among) l.pieces) l.at

abbrev pub decreases-loop-at : goal.decreases-loop-at
decreases-loop-at l = left (map span_run l.free) (map blocks_of l.mappings) (map (looked_run l.among) l.pieces) l.at
