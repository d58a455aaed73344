use Rattle.law_accounts.proofs.Account.Follow.{chains_follow}
use Rattle.law_accounts.proofs.Account.Shapes.{firsts_begin, rest_stays, stretch_stays}
use Rattle.law_accounts.proofs.account_laws.chain_follows.Goals as goal

pub returns-clause-falls : goal.returns-clause-falls
returns-clause-falls c = chains_follow

pub returns-clause-begun : goal.returns-clause-begun
returns-clause-begun c = firsts_begin

pub returns-clause-rest : goal.returns-clause-rest
returns-clause-rest c = rest_stays

pub returns-clause-stretch : goal.returns-clause-stretch
returns-clause-stretch c = stretch_stays
