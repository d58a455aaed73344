use Rattle.fs_change.proofs.Behind.{groups_behind}
use Rattle.fs_change.proofs.laws.groups_behind.Goals as goal

pub returns : goal.returns
returns c = groups_behind
