use Rattle.fs_change.proofs.Owed as lemmas
use Rattle.fs_change.proofs.laws.step_moves.Goals as goal

pub returns : goal.returns
returns c = lemmas.step_moves
