use Rattle.std.proofs.Common.{◌∙◌}
use Rattle.index_derive.proofs.InodeLemmas.{mask_said}
use Rattle.index_derive.proofs.inodes.free_mask.Goals as goal

pub returns-clause-exact : goal.returns-clause-exact
returns-clause-exact c a g u are = c.mask.ensures ∙ mask_said a g u c.args.modes.now are
