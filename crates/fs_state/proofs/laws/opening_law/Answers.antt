use Rattle.fs_state.proofs.Opening.{opening}
use Rattle.fs_state.proofs.laws.opening_law.Goals as goal

pub returns : goal.returns
returns c = opening
