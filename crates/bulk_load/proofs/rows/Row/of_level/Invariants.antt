use Rattle.bulk_load.specs.Shapes.{IsRow}
use Rattle.bulk_load.proofs.rows.Row.of_level.Given as goal

abbrev pub invariant-loop-below : goal.invariant-loop-below
invariant-loop-below l = IsRow l.kind l.records l.below l.row
