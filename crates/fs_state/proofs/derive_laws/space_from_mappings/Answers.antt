use Rattle.fs_state.proofs.Sources as lemmas
use Rattle.fs_state.proofs.derive_laws.space_from_mappings.Goals as goal

pub returns : goal.returns
returns c = lemmas.space_from_mappings
