use Rattle.std.specs.Prelude.{refl, [], true, None}
use Rattle.test_changes.proofs.Computing.{computing}
use Rattle.test_changes.proofs.Stands.{stands, first, mapping_step}
use Rattle.fs_model.specs.declared.entry.Entry.TheVariants as entries
use Rattle.fs_change.specs.Changes.{mapped}
use Rattle.std.proofs.lemmas.Bool.{ltb-true}
use Rattle.test_changes.specs.Files.{piece, first_of, rest_of, file_made, grown_six, grown_seven}
use Rattle.test_states.specs.Images.{image_a}
use Rattle.test_changes.proofs.rows.growing_file.Goals as goal

pub returns : goal.returns
unfolding computing
returns c = (
  (
    [],
    file_made,
    stands image_a file_made (entries.Taken 1 195 7 None) (195, (λ g. true, refl, (0, ltb-true 0 1 refl, refl), refl, refl), refl, refl) refl,
    tt,
    (
      [],
      mapped (piece 0 32 6) file_made,
      stands (file_made) (mapped (piece 0 32 6) (file_made)) (entries.Mapped (piece 0 32 6)) (record { some = ltb-true 0 6 refl; first = first (file_made) 195 refl refl refl refl refl; unmapped = refl; chosen = (λ g. true, 6, refl); unowned = refl }, refl) refl,
      tt,
      (
        [],
        grown_six,
        mapping_step (mapped (piece 0 32 6) file_made) 32 6 (first_of ((mapped (piece 0 32 6) file_made).chains 0)) (rest_of ((mapped (piece 0 32 6) file_made).chains 0)) refl refl refl refl refl refl refl refl refl,
        tt,
        (
          [],
          mapped (piece 6 19 1) grown_six,
          stands (grown_six) (mapped (piece 6 19 1) (grown_six)) (entries.Mapped (piece 6 19 1)) (record { some = ltb-true 0 1 refl; first = first (grown_six) 195 refl refl refl refl refl; unmapped = refl; chosen = (λ g. true, 1, refl); unowned = refl }, refl) refl,
          tt,
          (
            [],
            grown_seven,
            mapping_step (mapped (piece 6 19 1) grown_six) 19 1 (first_of ((mapped (piece 6 19 1) grown_six).chains 0)) (rest_of ((mapped (piece 6 19 1) grown_six).chains 0)) refl refl refl refl refl refl refl refl refl,
            tt,
            refl,
          ),
        ),
      ),
    ),
  ),
  refl,
  refl,
  refl,
  refl,
  refl,
  refl,
  refl,
  refl,
  refl,
  refl,
)
