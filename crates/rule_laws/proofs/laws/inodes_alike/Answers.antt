use Rattle.rule_laws.proofs.InodeLemmas.{finds_lowest, finds_none, gives_inode, takes_inode}
use Rattle.rule_laws.proofs.laws.inodes_alike.Goals as goal

pub returns-clause-taken : goal.returns-clause-taken
returns-clause-taken c = takes_inode

pub returns-clause-given : goal.returns-clause-given
returns-clause-given c = gives_inode

pub returns-clause-lowest : goal.returns-clause-lowest
returns-clause-lowest c = finds_lowest

pub returns-clause-none : goal.returns-clause-none
returns-clause-none c = finds_none
