use Rattle.test_changes.proofs.Computing.{computing}
use Rattle.std.specs.Prelude.{refl, is_some}
use Rattle.std.proofs.Common.{ap}
use Rattle.std.proofs.lemmas.Bool.{false≢true}
use Rattle.fs_change.specs.Loose.{count_used}
use Rattle.test_changes.proofs.rows.list_taken.Goals as goal

pub returns : goal.returns
unfolding computing count_used
returns c = (refl, refl, refl, refl, refl, λ l. false≢true (ap is_some (l.inodes.untouched 56 refl)))
