use Rattle.std.proofs.Common.{List, map, Option, option_map, ap, arith}
use Rattle.fs_state.specs.Session.{Place}
use Rattle.fs_model.specs.declared.unit.Unit.{Unit as ScrubUnit}
use Rattle.test_states.proofs.Computing.{computing}
use Rattle.test_states.proofs.rows.refused_sessions.Goals as goal

units : List Place → List ScrubUnit
units = map (λ (p : Place). p.1)

unit_in : Option Place → Option ScrubUnit
unit_in = option_map (λ (p : Place). p.1)

pub returns : goal.returns
unfolding computing units unit_in
returns c = (
  λ s. cc (ap units s.order_kept),
  (
    λ s. cc s.order_kept,
    (
      λ s. cc s.order_kept,
      (
        λ s. cc s.order_kept,
        (
          λ s. s.verdicts.0,
          (
            λ s. s.verdicts.0,
            (
              λ s. cc s.verdicts.1.0,
              (
                λ s. cc (ap unit_in s.verdicts.1.0),
                (
                  λ s. cc s.verdicts.1.0,
                  (
                    λ s. cc (ap units s.order_kept.1),
                    (
                      λ s. omega (arith, s.verdicts.0),
                      tt,
                    ),
                  ),
                ),
              ),
            ),
          ),
        ),
      ),
    ),
  ),
)
