use Rattle.std.proofs.Common.{ap, arith}
use Rattle.geom.specs.Places.{layout}
use Rattle.blk_device.specs.declared.device.Region.TheVariants.{Image}
use Rattle.check_phases.proofs.PartLemmas.{heads_among}
use Rattle.check_phases.proofs.part.check_space_of.Goals as goal

pub check_space-requires-clause-head : goal.check_space-requires-clause-head
check_space-requires-clause-head g c = λ m e. ap (λ h. h.agf) (heads_among (layout c.args.geo.now) (m Image) c.args.g c.index-heads-g.result c.args.heads.now (omega (arith, c.requires.all, c.requires.group)) (c.requires.heads m e))
