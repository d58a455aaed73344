use Rattle.core_check.proofs.CheckLemmas.{restored}
use Rattle.core_check.proofs.compare.put_back.Goals as goal

pub returns-clause-judging : goal.returns-clause-judging
returns-clause-judging c = λ at g is. restored at g c.args.piece.judging c.args.piece.at c.args.piece.found is
