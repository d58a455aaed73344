use Rattle.law_accounts.proofs.Owner.Finished.{finished_keeps}
use Rattle.law_accounts.proofs.owner_laws.finished_keeps.Goals as goal

pub returns : goal.returns
returns c = finished_keeps
