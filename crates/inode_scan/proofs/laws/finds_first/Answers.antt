use Rattle.inode_scan.proofs.FirstLaw.{finds_first}
use Rattle.inode_scan.proofs.laws.finds_first.Goals as goal

pub returns : goal.returns
returns c = finds_first
