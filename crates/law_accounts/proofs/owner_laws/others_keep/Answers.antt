use Rattle.law_accounts.proofs.Owner.Others.{others_keep}
use Rattle.law_accounts.proofs.owner_laws.others_keep.Goals as goal

pub returns : goal.returns
returns c = others_keep
