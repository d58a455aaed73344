use Rattle.blk_device.specs.declared.device.Region.TheVariants.{Image}
use Rattle.geom.specs.Places.{layout}
use Rattle.inode_pass.proofs.UnitLemmas.{seen_more}
use Rattle.inode_pass.proofs.units.see_one.Goals as goal

pub returns-clause-exact : goal.returns-clause-exact
returns-clause-exact g c = λ m e so.
    seen_more (layout c.args.geo.now) (m Image) c.args.g c.args.seen.now.items c.push.new.self.items c.in_ok-found.found c.in_ok-push.ensures.items (c.in_ok-found.ensures.exact m e) so
