use Rattle.fs_state.proofs.Standing.{stands}
use Rattle.fs_state.proofs.laws.bad_trees_stand.Goals as goal

pub returns : goal.returns
returns c = stands
