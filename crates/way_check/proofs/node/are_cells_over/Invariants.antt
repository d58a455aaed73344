use Rattle.std.proofs.Common.{◌<◌, ℕ}
use Rattle.way_check.specs.Checks.{IsCellOver}
use Rattle.way_check.proofs.node.are_cells_over.Given as goal

abbrev pub invariant-loop-i : goal.invariant-loop-i
invariant-loop-i g l = (k : ℕ) → k < l.i → IsCellOver g.K.RecKind.form l.old.bytes l.new.bytes l.at k
