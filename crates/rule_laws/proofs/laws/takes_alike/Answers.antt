use Rattle.rule_laws.proofs.ForkLemmas.{takes_alike, piece_alike}
use Rattle.rule_laws.proofs.laws.takes_alike.Goals as goal

pub returns-clause-taken : goal.returns-clause-taken
returns-clause-taken c = takes_alike

pub returns-clause-piece : goal.returns-clause-piece
returns-clause-piece c = piece_alike
