use Rattle.std.specs.Prelude.{refl, [], ◌∷◌}
use Rattle.fs_model.specs.declared.unit.Unit.TheVariants as units
use Rattle.test_states.proofs.Computing.{computing}
use Rattle.test_states.proofs.rows.standing_sessions.Goals as goal

pub returns : goal.returns
unfolding computing
returns c = (
  record { order_kept = refl; verdicts = (tt, (tt, (tt, (tt, tt)))) },
  (
    record { order_kept = refl; verdicts = (tt, (tt, (refl, (refl, (refl, tt))))) },
    (
      record { order_kept = refl; verdicts = (tt, (tt, (tt, (refl, (refl, tt))))) },
      (
        record { order_kept = refl; verdicts = (tt, (tt, (tt, (tt, (tt, tt))))) },
        (
          record { order_kept = refl; verdicts = (tt, (refl, (refl, (refl, tt)))) },
          (
            record { order_kept = ((0, units.Free) ∷ (0, units.Refc) ∷ [], refl); verdicts = (tt, (tt, tt)) },
            (
              record { order_kept = refl; verdicts = tt },
              tt,
            ),
          ),
        ),
      ),
    ),
  ),
)
