use Rattle.test_changes.proofs.Computing.{computing}
use Rattle.std.proofs.lemmas.Bool.{true≢false}
use Rattle.test_changes.proofs.rows.not_to_be_taken.Goals as goal

pub returns : goal.returns
unfolding computing
returns c = λ left b s. true≢false s.row.0.unowned
