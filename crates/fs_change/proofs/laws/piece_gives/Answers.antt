use Rattle.fs_change.proofs.Pieces as lemmas
use Rattle.fs_change.proofs.laws.piece_gives.Goals as goal

pub returns : goal.returns
returns c = lemmas.piece_gives
