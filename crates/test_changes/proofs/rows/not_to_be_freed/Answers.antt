use Rattle.test_changes.proofs.Computing.{computing}
use Rattle.std.proofs.Common.{sym}
use Rattle.std.proofs.lemmas.Bool.{true≢false}
use Rattle.std.proofs.Common.{arith, ◌<◌}
use Rattle.test_changes.proofs.rows.not_to_be_freed.Goals as goal

no_less : 0 < 0 → ⊥
no_less h = omega arith

pub returns : goal.returns
unfolding computing
returns c = (λ left b s. true≢false (sym s.row.5), λ left b s. no_less s.row.0.some, λ left b s. true≢false (sym s.row.0.in_limbo))
