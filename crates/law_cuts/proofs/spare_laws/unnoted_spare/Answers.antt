use Rattle.law_cuts.proofs.Spare.Spare.{unnoted_nobodys, unnoted_owes_none, unnoted_owns, unnoted_tells, unnoted_unclaimed}
use Rattle.law_cuts.proofs.spare_laws.unnoted_spare.Goals as goal

pub returns-clause-unclaimed : goal.returns-clause-unclaimed
returns-clause-unclaimed c = unnoted_unclaimed

pub returns-clause-nobodys : goal.returns-clause-nobodys
returns-clause-nobodys c = unnoted_nobodys

pub returns-clause-owes_none : goal.returns-clause-owes_none
returns-clause-owes_none c = unnoted_owes_none

pub returns-clause-owns : goal.returns-clause-owns
returns-clause-owns c = unnoted_owns

pub returns-clause-tells : goal.returns-clause-tells
returns-clause-tells c = unnoted_tells
