use Rattle.std.specs.Prelude.{refl}
use Rattle.test_changes.proofs.Computing.{computing}
use Rattle.fs_change.proofs.Compose.{session_begins}
use Rattle.test_changes.specs.Repairs.{free_reserved}
use Rattle.test_changes.specs.Crashes.{free_switched}
use Rattle.test_changes.proofs.rows.either_root.Goals as goal

pub returns : goal.returns
unfolding computing
returns c = (session_begins free_reserved, session_begins free_switched, refl, refl, refl, refl)
