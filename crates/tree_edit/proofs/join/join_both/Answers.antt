use Rattle.std.proofs.Common.{◌^◌, ℕ, ap, sym, subst, arith}
use Rattle.blk_device.specs.ReadingLaws.{read_on}
use Rattle.blk_device.specs.declared.device.Region.{Region}
use Rattle.blk_device.specs.declared.device.Region.TheVariants.{Image}
use Rattle.join_blocks.specs.Joins.{placed_in, LieBelow}
use Rattle.join_blocks.proofs.CountLemmas.{count_grows}
use Rattle.tree_edit.proofs.BlockLemmas.{lie_first, lie_rest, only_more, only_then, counts_both, on_ok}
use Rattle.tree_edit.proofs.join.join_both.Goals as goal

pub join_put-requires-clause-inside : goal.join_put-requires-clause-inside
join_put-requires-clause-inside g c = lie_first (g.D.Device.blocks c.args.dev.now Image) c.args.first (placed_in c.args.placed.now) c.args.left.now c.requires.inside

pub join_put-requires-clause-fits : goal.join_put-requires-clause-fits
join_put-requires-clause-fits g c = lie_first (2 ^ 64) c.args.first (placed_in c.args.placed.now) c.args.left.now c.requires.fits

pub join_put-requires-clause-room : goal.join_put-requires-clause-room
join_put-requires-clause-room g c =
    let grows = count_grows c.args.txn.now.blocks c.args.first (placed_in c.args.placed.now) c.args.left.now in
    omega (arith, grows, c.requires.room)

pub join_found-requires-clause-inside : goal.join_found-requires-clause-inside
join_found-requires-clause-inside g c =
    subst (λ (n : ℕ). LieBelow n c.args.first c.args.left.now) (sym (ap (λ (f : Region → ℕ). f Image) c.join_put.ensures.reading.sizes))
    (lie_rest (g.D.Device.blocks c.args.dev.now Image) c.args.first (placed_in c.args.placed.now) c.args.left.now c.requires.inside)

pub join_found-requires-clause-fits : goal.join_found-requires-clause-fits
join_found-requires-clause-fits g c = lie_rest (2 ^ 64) c.args.first (placed_in c.args.placed.now) c.args.left.now c.requires.fits

pub returns-clause-reading : goal.returns-clause-reading
returns-clause-reading g c =
    let met = g.met.D.Device in
    read_on g.D.Device met.only_now met.counts_now c.args.dev.now c.join_put.new.dev c.join_found.new.dev c.args.steps.now c.join_put.new.steps c.join_found.new.steps c.join_put.ensures.reading c.join_found.ensures.reading

pub returns-clause-count : goal.returns-clause-count
returns-clause-count g c =
    let placed = placed_in c.args.placed.now in
    on_ok c.join_found.result (λ found. counts_both c.args.first placed c.args.left.now c.args.txn.now.blocks c.join_put.new.txn.blocks c.join_found.new.txn.blocks c.in_ok-join_put.ensures.count found) c.join_found.ensures.count

pub returns-clause-ticks : goal.returns-clause-ticks
returns-clause-ticks g c = on_ok c.join_found.result (λ found. omega (arith, found, c.in_ok-join_put.ensures.ticks)) c.join_found.ensures.ticks

pub returns-clause-others : goal.returns-clause-others
returns-clause-others g c = only_then c.args.first (placed_in c.args.placed.now) c.args.left.now c.args.txn.now.blocks c.join_put.new.txn.blocks c.join_found.new.txn.blocks c.join_put.ensures.others c.join_found.ensures.others

pub returns-in_err-join_put-clause-others : goal.returns-in_err-join_put-clause-others
returns-in_err-join_put-clause-others g c = only_more c.args.first (placed_in c.args.placed.now) c.args.left.now c.args.txn.now.blocks c.join_put.new.txn.blocks c.join_put.ensures.others
