use Rattle.std.proofs.Common.{ap}
use Rattle.blk_device.specs.declared.device.Region.TheVariants.{Image}
use Rattle.geom.specs.Places.{layout}
use Rattle.tree_defs.specs.Sites.{site_of, group_blocks}
use Rattle.tree_blocks.specs.Cached.{blocks_told}
use Rattle.tree_blocks.proofs.ReadingLemmas.{told}
use Rattle.inode_scan.proofs.FirstLaw.{right_first}
use Rattle.inode_scan.proofs.tree.next_in_group.Goals as goal

pub returns-clause-right : goal.returns-clause-right
returns-clause-right g c =
    let site = site_of (layout c.args.geo.now) c.args.tree.now.group in
    told (g.D.Device.content c.args.dev.now) _
    (λ m e. right_first site (group_blocks site (m Image)) c.args.from c.args.end c.args.tree.now.root c.args.tree.now.levels c.search_site.result (rw (c.of_group-site.ensures.exact) at (c.search_site.ensures.exact (group_blocks c.of_group-site.result (m Image)) (ap (blocks_told c.of_group-site.result) e))))
