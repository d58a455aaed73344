use Rattle.law_accounts.proofs.Account.Free.{given_spans, taken_spans}
use Rattle.law_accounts.proofs.account_laws.space_follows.Goals as goal

pub returns-clause-taken : goal.returns-clause-taken
returns-clause-taken c = taken_spans

pub returns-clause-given : goal.returns-clause-given
returns-clause-given c = given_spans
