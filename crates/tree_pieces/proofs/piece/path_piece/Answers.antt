use Rattle.std.proofs.Common.{◌≡◌, ap}
use Rattle.blk_device.specs.declared.device.Region.TheVariants.{Image}
use Rattle.geom.specs.Places.{layout}
use Rattle.tree_defs.specs.Sites.{bounds_of, site_of, group_blocks}
use Rattle.tree_defs.specs.declared.site.Site.{Site}
use Rattle.tree_blocks.specs.Cached.{blocks_told}
use Rattle.tree_blocks.proofs.ReadingLemmas.{told}
use Rattle.tree_pieces.proofs.PieceLemmas.{right_piece}
use Rattle.tree_pieces.proofs.piece.path_piece.Goals as goal

pub returns-clause-right : goal.returns-clause-right
returns-clause-right g c =
    let form = g.K.RecKind.form in
    let site = site_of (layout c.args.geo.now) c.args.tree.now.group in
    told (g.D.Device.content c.args.dev.now) _
    (λ m e. right_piece form g.met.K.RecKind.lawful site (group_blocks site (m Image)) c.args.tree.now.root c.args.tree.now.levels c.args.after c.piece_site.result (rw (c.of_group-site.ensures.exact) at (c.piece_site.ensures.exact (group_blocks c.of_group-site.result (m Image)) (ap (blocks_told c.of_group-site.result) e))))

pub returns-clause-sound : goal.returns-clause-sound
unfolding site_of
returns-clause-sound g c =
    let e : c.of_group-site.result.bounds ≡ bounds_of (layout c.args.geo.now) c.args.tree.now.group = ap (λ (s : Site). s.bounds) c.of_group-site.ensures.exact in
    rw (← e) c.piece_site.ensures.sound
