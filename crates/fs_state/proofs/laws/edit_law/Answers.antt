use Rattle.fs_state.proofs.EditSteps.{edit_law_lem}
use Rattle.fs_state.proofs.laws.edit_law.Goals as goal

pub returns : goal.returns
returns c = edit_law_lem
