use Rattle.std.proofs.Common.{ap}
use Rattle.blk_device.specs.declared.device.Region.TheVariants.{Image}
use Rattle.meta_txn.specs.Joined.{written}
use Rattle.tree_defs.specs.Sites.{group_blocks}
use Rattle.tree_blocks.proofs.ReadingLemmas.{told}
use Rattle.tree_find.proofs.FindLaw.{right_in_tree}
use Rattle.txn_blocks.specs.Through.{changed}
use Rattle.txn_blocks.proofs.edited.find_edited.Goals as goal

pub returns-clause-right : goal.returns-clause-right
returns-clause-right g c =
    let edit = c.args.edit.now in
    told (g.D.Device.content edit.dev.now) _
    (λ m e. right_in_tree g.K.RecKind.form g.met.K.RecKind.lawful edit.site (group_blocks edit.site (written (m Image) edit.txn.now)) c.args.tree.now.root c.args.tree.now.levels c.args.key.now c.find_site.result
    (c.find_site.ensures.exact (group_blocks edit.site (written (m Image) edit.txn.now)) (ap (changed edit.site edit.txn.now) e)))

pub returns-clause-exact : goal.returns-clause-exact
returns-clause-exact g c =
    let edit = c.args.edit.now in
    told (g.D.Device.content edit.dev.now) _
    (λ m e. c.find_site.ensures.exact (group_blocks edit.site (written (m Image) edit.txn.now)) (ap (changed edit.site edit.txn.now) e))
