use Rattle.std.proofs.Common.{◌≡◌, length}
use Rattle.way_check.specs.Checks.{is_placed}
use Rattle.way_check.proofs.walk.has_block.Given as goal

abbrev pub invariant-loop-first : goal.invariant-loop-first
invariant-loop-first l = is_placed l.block l.rest ≡ is_placed l.block l.placed

abbrev pub decreases-loop-first : goal.decreases-loop-first
decreases-loop-first l = length l.rest
