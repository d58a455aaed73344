use Rattle.law_accounts.proofs.Account.Runs.{freed_sound, mapped_sound}
use Rattle.law_accounts.proofs.account_laws.runs_keep.Goals as goal

pub returns-clause-mapped : goal.returns-clause-mapped
returns-clause-mapped c = mapped_sound

pub returns-clause-freed : goal.returns-clause-freed
returns-clause-freed c = freed_sound
