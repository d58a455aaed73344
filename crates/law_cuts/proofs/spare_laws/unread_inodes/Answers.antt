use Rattle.law_cuts.proofs.Spare.Unread.{unread_keeps, unread_misses}
use Rattle.law_cuts.proofs.spare_laws.unread_inodes.Goals as goal

pub returns-clause-keeps : goal.returns-clause-keeps
returns-clause-keeps c = unread_keeps

pub returns-clause-misses : goal.returns-clause-misses
returns-clause-misses c = unread_misses
