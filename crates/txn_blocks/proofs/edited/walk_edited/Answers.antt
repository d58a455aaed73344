use Rattle.std.proofs.Common.{ap}
use Rattle.blk_device.specs.declared.device.Region.TheVariants.{Image}
use Rattle.meta_txn.specs.Joined.{written}
use Rattle.tree_defs.specs.Sites.{group_blocks}
use Rattle.tree_blocks.proofs.ReadingLemmas.{told}
use Rattle.txn_blocks.specs.Through.{changed}
use Rattle.txn_blocks.proofs.edited.walk_edited.Goals as goal

pub returns-clause-exact : goal.returns-clause-exact
returns-clause-exact g c =
    let edit = c.args.edit.now in
    told (g.D.Device.content edit.dev.now) _
    (λ m e. c.walk_site.ensures.exact (group_blocks edit.site (written (m Image) edit.txn.now)) (ap (changed edit.site edit.txn.now) e))

pub returns-clause-counted : goal.returns-clause-counted
returns-clause-counted g c =
    let edit = c.args.edit.now in
    told (g.D.Device.content edit.dev.now) _
    (λ m e. c.walk_site.ensures.counted (group_blocks edit.site (written (m Image) edit.txn.now)) (ap (changed edit.site edit.txn.now) e))
