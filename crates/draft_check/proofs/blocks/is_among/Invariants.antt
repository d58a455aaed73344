use Rattle.std.proofs.Common.{◌≡◌, length}
use Rattle.tree_defs.specs.Lists.{is_in}
use Rattle.draft_check.proofs.blocks.is_among.Given as goal

abbrev pub invariant-loop-first : goal.invariant-loop-first
invariant-loop-first l = is_in l.block l.rest ≡ is_in l.block l.list

abbrev pub decreases-loop-first : goal.decreases-loop-first
decreases-loop-first l = length l.rest
