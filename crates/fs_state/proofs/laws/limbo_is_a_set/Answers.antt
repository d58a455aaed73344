use Rattle.fs_state.proofs.Limbos.{a_set}
use Rattle.fs_state.proofs.laws.limbo_is_a_set.Goals as goal

pub returns : goal.returns
returns c = a_set
