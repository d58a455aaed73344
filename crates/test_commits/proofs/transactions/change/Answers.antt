use Rattle.std.proofs.Common.{◌≡◌, ◌<◌, ℕ, sym, ap, subst, arith}
use Rattle.std.specs.Prelude.{slice_set}
use Rattle.blk_device.specs.declared.device.Region.{Region}
use Rattle.blk_device.specs.declared.device.Region.TheVariants.{Image}
use Rattle.meta_txn.specs.Joined.{with_block, AreBelow}
use Rattle.meta_txn.proofs.JoinedLaws.{below_with}
use Rattle.test_commits.proofs.transactions.change.Goals as goal

pub returns-clause-inside : goal.returns-clause-inside
returns-clause-inside g c =
    let d = g.D.Device in
    let size = d.blocks c.args.dev.now Image in
    let old = c.args.txn.now in
    let bytes = slice_set c.in_ok-block.block.now.bytes 0 c.args.byte in
    let same : d.blocks c.join.new.dev Image ≡ size = ap (λ (f : Region → ℕ). f Image) c.join.ensures.sizes in
    let lt : c.args.at < size = omega (arith, c.if-at-size.false, c.size.ensures) in
    subst (λ (n : ℕ). AreBelow n (with_block c.args.at bytes old.blocks) × AreBelow n old.marked) (sym same) (below_with size c.args.at bytes old.blocks c.requires.inside.0 lt, c.requires.inside.1)
