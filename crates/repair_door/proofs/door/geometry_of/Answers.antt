use Rattle.repair_door.proofs.DecideLemmas.{short_decides}
use Rattle.repair_door.proofs.door.geometry_of.Goals as goal

pub returns-then-blocks-eq0-clause-exact : goal.returns-then-blocks-eq0-clause-exact
returns-then-blocks-eq0-clause-exact g c = short_decides _ _ c.size-blocks.result c.size-blocks.ensures c.if-blocks-eq0.true
