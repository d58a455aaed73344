use Rattle.std.specs.Prelude.{refl, [], true}
use Rattle.test_changes.proofs.Computing.{computing}
use Rattle.test_changes.proofs.Stands.{stands, first, mapping_step, count_step}
use Rattle.fs_model.specs.declared.entry.Entry.TheVariants as entries
use Rattle.fs_change.specs.Changes.{shared}
use Rattle.std.proofs.lemmas.Bool.{ltb-true, leb-true}
use Rattle.test_changes.specs.Files.{first_of, rest_of, second_place, shared_twice, step_mapping}
use Rattle.test_states.specs.Rows.{unshared_forty}
use Rattle.test_changes.proofs.rows.shared_piece.Goals as goal

pub returns : goal.returns
unfolding computing
returns c = (
  (
    [],
    shared second_place unshared_forty,
    stands unshared_forty (shared second_place unshared_forty) (entries.Shared second_place) (record { some = ltb-true 0 1 refl; most = leb-true 1 1024 refl; from_first = first unshared_forty 195 refl refl refl refl refl; to_first = first unshared_forty 195 refl refl refl refl refl; sound = refl; below = refl; piece = refl; written = refl; unmapped = refl }, refl) refl,
    tt,
    (
      [],
      step_mapping (shared second_place unshared_forty),
      mapping_step (shared second_place unshared_forty) 40 1 (first_of ((shared second_place unshared_forty).chains 0)) (rest_of ((shared second_place unshared_forty).chains 0)) refl refl refl refl refl refl refl refl refl,
      tt,
      (
        [],
        shared_twice,
        count_step (step_mapping (shared second_place unshared_forty)) 40 1 true (first_of ((step_mapping (shared second_place unshared_forty)).chains 0)) (rest_of ((step_mapping (shared second_place unshared_forty)).chains 0)) refl refl refl refl refl refl refl refl,
        tt,
        refl,
      ),
    ),
  ),
  refl,
  refl,
)
