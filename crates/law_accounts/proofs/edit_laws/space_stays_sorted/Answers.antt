use Rattle.law_accounts.proofs.Edit.Orders.{count_given, count_taken, longest_last}
use Rattle.law_accounts.proofs.edit_laws.space_stays_sorted.Goals as goal

pub returns-clause-taken : goal.returns-clause-taken
returns-clause-taken c = count_taken

pub returns-clause-given : goal.returns-clause-given
returns-clause-given c = count_given

pub returns-clause-longest : goal.returns-clause-longest
returns-clause-longest c = longest_last
