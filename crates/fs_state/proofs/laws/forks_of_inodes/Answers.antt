use Rattle.fs_state.proofs.Spoken.{unspoken}
use Rattle.fs_state.proofs.laws.forks_of_inodes.Goals as goal

pub returns : goal.returns
returns c = unspoken
