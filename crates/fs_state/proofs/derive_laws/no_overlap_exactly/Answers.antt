use Rattle.fs_state.proofs.Overlaps as lemmas
use Rattle.fs_state.proofs.derive_laws.no_overlap_exactly.Goals as goal

pub returns : goal.returns
returns c = lemmas.no_overlap_exactly
