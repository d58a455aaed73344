use Rattle.law_accounts.proofs.Account.First.{converted_sound, converted_stays, shared_sound, unmapped_sound}
use Rattle.law_accounts.proofs.account_laws.first_keeps.Goals as goal

pub returns-clause-unmapped : goal.returns-clause-unmapped
returns-clause-unmapped c = unmapped_sound

pub returns-clause-shared : goal.returns-clause-shared
returns-clause-shared c = shared_sound

pub returns-clause-converted : goal.returns-clause-converted
returns-clause-converted c = converted_sound

pub returns-clause-written : goal.returns-clause-written
returns-clause-written c = converted_stays
