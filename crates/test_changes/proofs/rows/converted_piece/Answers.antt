use Rattle.std.specs.Prelude.{refl, []}
use Rattle.test_changes.proofs.Computing.{computing}
use Rattle.test_changes.proofs.Stands.{stands, first, changes, mapping_step}
use Rattle.fs_model.specs.declared.entry.Entry.TheVariants as entries
use Rattle.fs_change.specs.Changes.{converted}
use Rattle.test_changes.specs.Files.{piece, first_of, rest_of, unwritten_file, half_written}
use Rattle.test_changes.proofs.rows.converted_piece.Goals as goal

pub returns : goal.returns
unfolding computing
returns c = (
  (
    [],
    converted (piece 1 41 1) unwritten_file,
    stands unwritten_file (converted (piece 1 41 1) unwritten_file) (entries.Converted (piece 1 41 1)) (changes unwritten_file (piece 1 41 1) refl refl (first unwritten_file 195 refl refl refl refl refl) refl, refl) refl,
    tt,
    (
      [],
      half_written,
      mapping_step (converted (piece 1 41 1) unwritten_file) 41 1 (first_of ((converted (piece 1 41 1) unwritten_file).chains 0)) (rest_of ((converted (piece 1 41 1) unwritten_file).chains 0)) refl refl refl refl refl refl refl refl refl,
      tt,
      refl,
    ),
  ),
  refl,
  refl,
  refl,
)
