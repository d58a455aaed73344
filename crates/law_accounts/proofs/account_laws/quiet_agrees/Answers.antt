use Rattle.law_accounts.proofs.Account.Stated.{quiet_is_derived}
use Rattle.law_accounts.proofs.account_laws.quiet_agrees.Goals as goal

pub returns : goal.returns
returns c = quiet_is_derived
