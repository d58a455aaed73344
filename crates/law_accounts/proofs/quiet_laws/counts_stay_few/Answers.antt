use Rattle.law_accounts.proofs.Quiet.Few.{counts_shown}
use Rattle.law_accounts.proofs.quiet_laws.counts_stay_few.Goals as goal

pub returns : goal.returns
returns c = counts_shown
