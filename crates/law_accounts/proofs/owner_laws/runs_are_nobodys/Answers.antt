use Rattle.law_accounts.proofs.Owner.Nobodys.{frees_nobodys, reaps_nobodys, takes_nobodys}
use Rattle.law_accounts.proofs.owner_laws.runs_are_nobodys.Goals as goal

pub returns-clause-taken : goal.returns-clause-taken
returns-clause-taken c = takes_nobodys

pub returns-clause-freed : goal.returns-clause-freed
returns-clause-freed c = frees_nobodys

pub returns-clause-reaped : goal.returns-clause-reaped
returns-clause-reaped c = reaps_nobodys
