use Rattle.test_changes.proofs.Computing.{computing}
use Rattle.std.specs.Prelude.{◌==◌, false}
use Rattle.std.specs.Option.{option_map_or}
use Rattle.std.proofs.Common.{sym, ap}
use Rattle.std.proofs.lemmas.Bool.{true≢false}
use Rattle.test_changes.proofs.rows.not_to_be_given.Goals as goal

pub returns : goal.returns
unfolding computing
returns c = (
  λ left b s. true≢false (ap (λ o. option_map_or (λ e. e.count == 15) o false) s.row.0.chosen),
  λ left b s. true≢false (sym s.row.1.sound),
  λ left b s. true≢false (sym s.row.0),
)
