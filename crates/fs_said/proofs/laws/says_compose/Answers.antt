use Rattle.fs_said.proofs.Journals as lemmas
use Rattle.fs_said.proofs.laws.says_compose.Goals as goal

pub returns : goal.returns
returns c = lemmas.says_compose
