use Rattle.fs_said.proofs.Found as lemmas
use Rattle.fs_said.proofs.laws.faults_are_found.Goals as goal

pub returns : goal.returns
returns c = lemmas.faults_are_found
