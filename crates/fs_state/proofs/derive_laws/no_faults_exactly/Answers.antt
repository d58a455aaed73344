use Rattle.fs_state.proofs.NoFaults as lemmas
use Rattle.fs_state.proofs.derive_laws.no_faults_exactly.Goals as goal

pub returns : goal.returns
returns c = lemmas.no_faults_exactly
