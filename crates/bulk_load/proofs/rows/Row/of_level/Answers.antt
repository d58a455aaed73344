use Rattle.std.proofs.Common.{arith}
use Rattle.bulk_load.proofs.ShapeLemmas.{row_fits, lower_level}
use Rattle.bulk_load.proofs.rows.Row.of_level.Goals as goal

pub above-row-requires : goal.above-row-requires
above-row-requires c = record { fits = row_fits c.args.kind c.args.records c.loop-below.below c.loop-below.row c.ranges.records.fits (lower_level c.args.kind c.args.records c.args.level c.loop-below.below c.requires (omega arith)) c.loop-below.invariant }
