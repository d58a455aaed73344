use Rattle.inode_scan.proofs.FewLaw.{reads_few}
use Rattle.inode_scan.proofs.laws.reads_few.Goals as goal

pub returns : goal.returns
returns c = reads_few
