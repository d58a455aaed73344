use Rattle.std.proofs.Common.{◌≡◌, ap}
use Rattle.geom.specs.Places.{layout}
use Rattle.tree_defs.specs.Sites.{bounds_of, site_of}
use Rattle.tree_defs.specs.declared.site.Site.{Site}
use Rattle.tree_walk.proofs.walker.walk.Goals as goal

pub returns-clause-sound : goal.returns-clause-sound
unfolding site_of
returns-clause-sound g c =
    let e : c.of_group-site.result.bounds ≡ bounds_of (layout c.args.geo.now) c.args.tree.now.group = ap (λ (s : Site). s.bounds) c.of_group-site.ensures.exact in
    rw (← e) c.walk_site.ensures.sound

pub returns-clause-lie : goal.returns-clause-lie
unfolding site_of
returns-clause-lie g c =
    let e : c.of_group-site.result.bounds.length ≡ (bounds_of (layout c.args.geo.now) c.args.tree.now.group).length = ap (λ (s : Site). s.bounds.length) c.of_group-site.ensures.exact in
    rw e at c.walk_site.ensures.lie
