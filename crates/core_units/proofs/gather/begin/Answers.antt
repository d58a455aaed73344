use Rattle.std.proofs.Common.{refl}
use Rattle.core_units.proofs.gather.begin.Goals as goal

pub returns-clause-orderly : goal.returns-clause-orderly
returns-clause-orderly c = λ at n. record { trees = c.in_ok-trees.ensures.sound at n; units = (c.new.ensures.items, refl) }
