use Rattle.fs_state.proofs.Sources as lemmas
use Rattle.fs_state.proofs.derive_laws.inodes_from_listing.Goals as goal

pub returns : goal.returns
returns c = lemmas.inodes_from_listing
