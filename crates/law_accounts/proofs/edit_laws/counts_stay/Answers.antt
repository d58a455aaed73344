use Rattle.law_accounts.proofs.Edit.Counts.{shared_given, shared_taken}
use Rattle.law_accounts.proofs.edit_laws.counts_stay.Goals as goal

pub returns-clause-given : goal.returns-clause-given
returns-clause-given c = shared_given

pub returns-clause-taken : goal.returns-clause-taken
returns-clause-taken c = shared_taken
