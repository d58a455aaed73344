use Rattle.law_writers.proofs.Change.Members.{owners_by_inode}
use Rattle.law_writers.proofs.change_laws.owners_by_inode.Goals as goal

pub returns : goal.returns
returns c = owners_by_inode
