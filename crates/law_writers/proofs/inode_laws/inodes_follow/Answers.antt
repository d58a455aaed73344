use Rattle.law_writers.proofs.Inode.Listed.{chunk_listed, given_listed, others_listed, taken_listed}
use Rattle.law_writers.proofs.inode_laws.inodes_follow.Goals as goal

pub returns-clause-taken : goal.returns-clause-taken
returns-clause-taken c = taken_listed

pub returns-clause-made : goal.returns-clause-made
returns-clause-made c = chunk_listed

pub returns-clause-given : goal.returns-clause-given
returns-clause-given c = given_listed

pub returns-clause-others : goal.returns-clause-others
returns-clause-others c = others_listed
