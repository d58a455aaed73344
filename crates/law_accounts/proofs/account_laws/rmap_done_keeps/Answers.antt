use Rattle.law_accounts.proofs.Account.Covers.{given_covers, taken_covers}
use Rattle.law_accounts.proofs.Account.Mappings.{rmap_done_sound}
use Rattle.law_accounts.proofs.account_laws.rmap_done_keeps.Goals as goal

pub returns-clause-given : goal.returns-clause-given
returns-clause-given c = given_covers

pub returns-clause-taken : goal.returns-clause-taken
returns-clause-taken c = taken_covers

pub returns-clause-step : goal.returns-clause-step
returns-clause-step c = rmap_done_sound
