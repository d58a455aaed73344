use Rattle.std.proofs.Common.{subst, sym}
use Rattle.unit_plan.specs.Sets.{pieces_of}
use Rattle.unit_plan.specs.Spare.{IsLowest}
use Rattle.core_units.specs.declared.lists.Lists.{Lists}
use Rattle.core_units.specs.Choices.{is_spare_for}
use Rattle.core_units.proofs.choice.lowest_spare.Goals as goal

pub returns-in-Inode-clause-exact : goal.returns-in-Inode-clause-exact
returns-in-Inode-clause-exact c = subst (λ (l : Lists). IsLowest (is_spare_for c.args.unit c.args.trust c.args.trees.now l (pieces_of c.args.set.now)) c.lowest_listed.result) (sym c.in-Inode.is) c.lowest_listed.ensures.exact

pub returns-in-Rmap-clause-exact : goal.returns-in-Rmap-clause-exact
returns-in-Rmap-clause-exact c = subst (λ (l : Lists). IsLowest (is_spare_for c.args.unit c.args.trust c.args.trees.now l (pieces_of c.args.set.now)) c.lowest_listed-in-Rmap.result) (sym c.in-Rmap.is) c.lowest_listed-in-Rmap.ensures.exact

pub returns-in-Refc-clause-exact : goal.returns-in-Refc-clause-exact
returns-in-Refc-clause-exact c = subst (λ (l : Lists). IsLowest (is_spare_for c.args.unit c.args.trust c.args.trees.now l (pieces_of c.args.set.now)) c.lowest_listed-in-Refc.result) (sym c.in-Refc.is) c.lowest_listed-in-Refc.ensures.exact
