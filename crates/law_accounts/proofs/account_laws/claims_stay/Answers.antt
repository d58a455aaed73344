use Rattle.law_accounts.proofs.Account.Framed.{freed_stated, rmap_done_stated}
use Rattle.law_accounts.proofs.account_laws.claims_stay.Goals as goal

pub returns-clause-mappings : goal.returns-clause-mappings
returns-clause-mappings c = rmap_done_stated

pub returns-clause-freed : goal.returns-clause-freed
returns-clause-freed c = freed_stated
