use Rattle.law_accounts.proofs.Edit.Spaces.{free_given, free_taken, same_free}
use Rattle.law_accounts.proofs.edit_laws.space_follows.Goals as goal

pub returns-clause-taken : goal.returns-clause-taken
returns-clause-taken c = free_taken

pub returns-clause-given : goal.returns-clause-given
returns-clause-given c = free_given

pub returns-clause-same : goal.returns-clause-same
returns-clause-same c = same_free
