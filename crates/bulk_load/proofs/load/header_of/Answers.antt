use Rattle.std.proofs.Common.{◌≡◌, ◌+◌, ◌-◌, ◌<◌, ◌≤◌, ℕ, suc, length, refl, sym, ◌∙◌, arith}
use Rattle.bulk_load.specs.Loaded.{left_for, right_for}
use Rattle.bulk_load.specs.Shapes.{share, count}
use Rattle.bulk_load.proofs.ShapeLemmas.{few_levels, row_share, count_most, start_on}
use Rattle.bulk_load.proofs.load.header_of.Goals as goal

pub overflow_cast-result : goal.overflow_cast-result
overflow_cast-result c = record { fits = omega (arith, few_levels c.args.kind c.args.records c.args.level c.ranges.records.fits c.requires.level) }

pub share-requires-clause-fits : goal.share-requires-clause-fits
share-requires-clause-fits c =
    let s : share c.of_level-row.result.items c.of_level-row.result.width c.args.i ≡ count c.args.kind c.args.records c.args.level c.args.i = (row_share c.args.kind c.args.records c.args.level c.args.i c.of_level-row.result c.of_level-row.ensures).1 in
    omega (arith, s, count_most c.args.kind c.args.records c.args.level c.args.i)

pub overflow_cast-result-2 : goal.overflow_cast-result-2
overflow_cast-result-2 c =
    let s : share c.of_level-row.result.items c.of_level-row.result.width c.args.i ≡ count c.args.kind c.args.records c.args.level c.args.i = (row_share c.args.kind c.args.records c.args.level c.args.i c.of_level-row.result c.of_level-row.ensures).1 in
    record { fits = omega (arith, c.share.ensures, s, count_most c.args.kind c.args.records c.args.level c.args.i) }

pub left_of-requires : goal.left_of-requires
left_of-requires c = omega (arith, c.of_level-row.ensures.starts, c.requires.within, c.requires.claimed, start_on c.args.kind c.args.records c.args.level)

pub right_of-requires-clause-claimed : goal.right_of-requires-clause-claimed
right_of-requires-clause-claimed c = omega (arith, c.of_level-row.ensures.starts, c.of_level-row.ensures.wide, c.requires.claimed, start_on c.args.kind c.args.records c.args.level)

pub returns : goal.returns
returns c =
    let s : share c.of_level-row.result.items c.of_level-row.result.width c.args.i ≡ count c.args.kind c.args.records c.args.level c.args.i = (row_share c.args.kind c.args.records c.args.level c.args.i c.of_level-row.result c.of_level-row.ensures).1 in
    let e : c.share.result ≡ count c.args.kind c.args.records c.args.level c.args.i = c.share.ensures ∙ s in
    let l : c.left_of.result ≡ left_for c.args.kind c.args.records c.args.claimed.now c.args.level c.args.i = c.left_of.ensures c.args.kind c.args.records c.args.level c.of_level-row.ensures in
    let r : c.right_of.result ≡ right_for c.args.kind c.args.records c.args.claimed.now c.args.level c.args.i = c.right_of.ensures c.args.kind c.args.records c.args.level c.of_level-row.ensures in
    λ i. record { level = c.args.level; numrecs = e i; left = l i; right = r i; lsn = c.args.lsn }
