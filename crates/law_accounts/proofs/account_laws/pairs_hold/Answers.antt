use Rattle.law_accounts.proofs.Account.Holders.{pairs_found}
use Rattle.law_accounts.proofs.Account.Shapes.{few_rise}
use Rattle.law_accounts.proofs.account_laws.pairs_hold.Goals as goal

pub returns-clause-found : goal.returns-clause-found
returns-clause-found c = pairs_found

pub returns-clause-few : goal.returns-clause-few
returns-clause-few c = few_rise
