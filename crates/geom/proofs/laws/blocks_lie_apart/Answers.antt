use Rattle.geom.proofs.ApartLemmas.{blocks_differ, groups_differ, lies_inside, splits_in}
use Rattle.geom.proofs.laws.blocks_lie_apart.Goals as goal

pub returns : goal.returns
returns c = record { splits = splits_in; groups = groups_differ; blocks = blocks_differ; inside = lies_inside }
