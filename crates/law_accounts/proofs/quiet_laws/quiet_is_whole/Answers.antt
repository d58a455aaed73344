use Rattle.law_accounts.proofs.Quiet.Whole.{quiet_is_whole}
use Rattle.law_accounts.proofs.quiet_laws.quiet_is_whole.Goals as goal

pub returns : goal.returns
returns c = quiet_is_whole
