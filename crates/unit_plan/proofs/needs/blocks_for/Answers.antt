use Rattle.unit_plan.proofs.NeedLemmas.{tree_small}
use Rattle.unit_plan.proofs.needs.blocks_for.Goals as goal

pub returns-clause-tree : goal.returns-clause-tree
returns-clause-tree c = (c.shape.result.levels, c.shape.ensures)

pub returns-clause-small : goal.returns-clause-small
returns-clause-small c = tree_small c.args.kind c.args.records c.shape.result.levels c.shape.result.blocks c.ranges.records.fits c.shape.ensures
