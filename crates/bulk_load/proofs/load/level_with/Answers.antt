use Rattle.std.proofs.Common.{◌+◌, ◌-◌, suc, arith, add-one}
use Rattle.bulk_load.proofs.ShapeLemmas.{start_none, start_on, row_fits}
use Rattle.bulk_load.proofs.load.level_with.Goals as goal

pub loop-level-init : goal.loop-level-init
loop-level-init c = omega (arith, start_none c.args.kind c.args.records)

pub overflow_add-row : goal.overflow_add-row
overflow_add-row c = record { fits = row_fits c.args.kind c.args.records c.loop-level.level c.of_level-row.result c.ranges.records.fits (λ j lt. c.requires.level j (omega (arith, lt, c.loop-level-test.true))) c.of_level-row.ensures }

pub returns-then-k-row-clause-to : goal.returns-then-k-row-clause-to
returns-then-k-row-clause-to c = omega (arith, c.if-k-row.true, c.of_level-row.ensures.wide, c.of_level-row.ensures.starts, start_on c.args.kind c.args.records c.loop-level.level)

pub loop-level-preserved : goal.loop-level-preserved
loop-level-preserved c = rw add-one (omega (arith, c.if-k-row.false, c.of_level-row.ensures.wide, c.of_level-row.ensures.starts, start_on c.args.kind c.args.records c.loop-level.level))
