use Rattle.std.proofs.Common.{◌≡◌, ℕ, sym, subst}
use Rattle.geom.specs.Layout.{device_block_of}
use Rattle.geom.specs.Places.{layout}
use Rattle.geom.proofs.ApartLemmas.{blocks_differ, groups_differ}
use Rattle.geom.proofs.geometry.Geometry.lie_apart.Goals as goal

pub returns : goal.returns
returns c =
    let at = layout c.args.self.now in
    let one = groups_differ at c.args.self.now.fitting c.args.g c.args.h c.args.b c.args.c c.requires.first.block c.requires.second.block c.requires.same in
    (one, blocks_differ at c.args.g c.args.b c.args.c (subst (λ (h : ℕ). device_block_of at c.args.g c.args.b ≡ device_block_of at h c.args.c) (sym one) c.requires.same))
