use Rattle.fs_state.proofs.Frames.{frame_law_lem}
use Rattle.fs_state.proofs.laws.frame_law.Goals as goal

pub returns : goal.returns
returns c = frame_law_lem
