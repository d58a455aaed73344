use Rattle.fs_state.proofs.Groups.{group_law_lem}
use Rattle.fs_state.proofs.laws.group_law.Goals as goal

pub returns : goal.returns
returns c = group_law_lem
