use Rattle.law_cuts.proofs.Spare.Spare.{spare_decides, spare_nobodys, spare_tells}
use Rattle.law_cuts.proofs.spare_laws.spare_stays_told.Goals as goal

pub returns-clause-nobodys : goal.returns-clause-nobodys
returns-clause-nobodys c = spare_nobodys

pub returns-clause-decided : goal.returns-clause-decided
returns-clause-decided c = spare_decides

pub returns-clause-behind : goal.returns-clause-behind
returns-clause-behind c = spare_tells
