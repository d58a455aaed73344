use Rattle.law_accounts.proofs.Account.Lists.{refilled_sound, trimmed_sound}
use Rattle.law_accounts.proofs.account_laws.list_keeps.Goals as goal

pub returns-clause-refilled : goal.returns-clause-refilled
returns-clause-refilled c = refilled_sound

pub returns-clause-trimmed : goal.returns-clause-trimmed
returns-clause-trimmed c = trimmed_sound
