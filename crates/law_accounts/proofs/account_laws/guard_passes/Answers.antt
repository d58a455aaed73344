use Rattle.law_accounts.proofs.Account.Guards.{guard_passes}
use Rattle.law_accounts.proofs.account_laws.guard_passes.Goals as goal

pub returns : goal.returns
returns c = guard_passes
