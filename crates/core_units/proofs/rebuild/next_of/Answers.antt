use Rattle.std.proofs.Common.{rules}
use Rattle.core_units.specs.Reserved.{IsTooFew}
use Rattle.core_units.proofs.TakenLemmas.{can_spare}
use Rattle.core_units.proofs.rebuild.next_of.Goals as goal

pub choose-choice-requires : goal.choose-choice-requires
choose-choice-requires c = can_spare c.args.trees.now c.args.building.now.lists c.requires.trees c.requires.built.lists
