use Rattle.law_repairs.proofs.Letter.Known.{letters_end, letters_follow}
use Rattle.law_repairs.proofs.letter_laws.letters_follow.Goals as goal

pub returns-clause-entries : goal.returns-clause-entries
returns-clause-entries c = letters_follow

pub returns-clause-end : goal.returns-clause-end
returns-clause-end c = letters_end
