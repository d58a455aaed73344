use Rattle.core_scan.proofs.Begun.{begins}
use Rattle.core_scan.proofs.scan.begin.Goals as goal

pub returns-clause-begins : goal.returns-clause-begins
returns-clause-begins c = λ a n calm none. begins a n c.args.group c.in_ok-shadow.shadow calm none c.in_ok-shadow.ensures.group c.in_ok-shadow.ensures.empty
