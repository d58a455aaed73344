use Rattle.std.proofs.Common.{◌-◌, arith}
use Rattle.bulk_load.proofs.ShapeLemmas.{few_levels, row_fits, row_falls, row_is_top}
use Rattle.bulk_load.proofs.levels.shape.Goals as goal

pub above-row-requires : goal.above-row-requires
above-row-requires c = record { fits = row_fits c.args.kind c.args.n (c.loop-row.levels - 1) c.loop-row.row c.ranges.n.fits c.loop-row.invariant.1 c.loop-row.invariant.2 }

pub overflow_add-levels : goal.overflow_add-levels
overflow_add-levels c = omega (arith, few_levels c.args.kind c.args.n (c.loop-row.levels - 1) c.ranges.n.fits c.loop-row.invariant.1)

pub loop-row-smaller : goal.loop-row-smaller
loop-row-smaller c =
    row_falls c.args.kind c.args.n (c.loop-row.levels - 1) c.loop-row.row c.above-row.result c.loop-row.invariant.2 (c.above-row.ensures c.args.n (c.loop-row.levels - 1) c.loop-row.invariant.2) c.loop-row-test.true

pub overflow_add-result : goal.overflow_add-result
overflow_add-result c = record { fits = row_fits c.args.kind c.args.n (c.loop-row.levels - 1) c.loop-row.row c.ranges.n.fits c.loop-row.invariant.1 c.loop-row.invariant.2 }

pub returns : goal.returns
returns c = row_is_top c.args.kind c.args.n c.loop-row.levels c.loop-row.row c.loop-row.invariant.0 c.loop-row.invariant.1 c.loop-row.invariant.2 c.loop-row-test.false
