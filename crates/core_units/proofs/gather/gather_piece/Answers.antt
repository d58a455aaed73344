use Rattle.blk_device.specs.declared.device.Region.TheVariants.{Image}
use Rattle.geom.specs.Places.{layout}
use Rattle.group_trees.specs.Heads.{heads_seen}
use Rattle.core_units.proofs.OrderlyLemmas.{passed_orderly}
use Rattle.core_units.proofs.gather.gather_piece.Goals as goal

pub gather_next-requires-clause-orderly : goal.gather_next-requires-clause-orderly
gather_next-requires-clause-orderly g c = passed_orderly (layout c.args.geo.now) c.args.g c.args.gathered.now c.pass_bad-gathered.result c.pass_bad-gathered.ensures.none c.requires.orderly

pub returns-clause-exact : goal.returns-clause-exact
returns-clause-exact g c = λ m e kept firm made. c.gather_next.ensures.exact m e kept firm (c.pass_bad-gathered.ensures.made (layout c.args.geo.now) (m Image) kept (heads_seen c.args.heads.now) c.args.g made)
