use Rattle.inode_scan.proofs.FewLaw.{reads_in_bounds}
use Rattle.inode_scan.proofs.laws.reads_in_bounds.Goals as goal

pub returns : goal.returns
returns c = reads_in_bounds
