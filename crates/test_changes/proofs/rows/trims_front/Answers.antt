use Rattle.test_changes.proofs.Computing.{computing}
use Rattle.std.proofs.Common.{sym}
use Rattle.std.proofs.lemmas.Bool.{true≢false}
use Rattle.test_changes.proofs.rows.trims_front.Goals as goal

pub returns : goal.returns
unfolding computing
returns c = (λ left b s. true≢false (sym s.row.0.on_list), λ left b s. true≢false (sym s.row.0.on_list))
