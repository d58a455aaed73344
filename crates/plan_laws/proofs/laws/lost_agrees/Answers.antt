use Rattle.plan_laws.proofs.Losing.{lost_free_lem, lost_nothing_lem, lost_old_lem, lost_refc_lem, lost_unlisted_lem}
use Rattle.plan_laws.proofs.laws.lost_agrees.Goals as goal

pub returns-clause-mappings : goal.returns-clause-mappings
returns-clause-mappings c = lost_unlisted_lem

pub returns-clause-nothing : goal.returns-clause-nothing
returns-clause-nothing c = lost_nothing_lem

pub returns-clause-free : goal.returns-clause-free
returns-clause-free c = lost_free_lem

pub returns-clause-counts : goal.returns-clause-counts
returns-clause-counts c = lost_refc_lem

pub returns-clause-inodes : goal.returns-clause-inodes
returns-clause-inodes c = lost_old_lem
