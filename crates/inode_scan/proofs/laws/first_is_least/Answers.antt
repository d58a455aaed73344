use Rattle.inode_scan.proofs.LeastLaw.{first_is_least}
use Rattle.inode_scan.proofs.laws.first_is_least.Goals as goal

pub returns : goal.returns
returns c = first_is_least
