use Rattle.fs_state.proofs.Sources as lemmas
use Rattle.fs_state.proofs.derive_laws.owners_from_parts.Goals as goal

pub returns : goal.returns
returns c = lemmas.owners_from_parts
