use Rattle.std.proofs.Common.{◌∙◌, arith}
use Rattle.bulk_load.proofs.ShapeLemmas.{count_most, row_share}
use Rattle.bulk_load.proofs.levels.counts.Goals as goal

pub share-requires-clause-fits : goal.share-requires-clause-fits
share-requires-clause-fits c = omega (arith, (row_share c.args.kind c.args.n c.args.level c.args.i c.of_level-row.result c.of_level-row.ensures).1, count_most c.args.kind c.args.n c.args.level c.args.i)

pub overflow_cast-result : goal.overflow_cast-result
overflow_cast-result c =
    record { fits = omega (arith, c.share.ensures, (row_share c.args.kind c.args.n c.args.level c.args.i c.of_level-row.result c.of_level-row.ensures).1, count_most c.args.kind c.args.n c.args.level c.args.i) }

pub returns : goal.returns
returns c = c.share.ensures ∙ (row_share c.args.kind c.args.n c.args.level c.args.i c.of_level-row.result c.of_level-row.ensures).1
