use Rattle.std.specs.Prelude.{refl, []}
use Rattle.fs_model.specs.declared.entry.Entry.TheVariants as entries
use Rattle.fs_change.specs.Changes.{converted}
use Rattle.test_changes.proofs.Computing.{computing}
use Rattle.test_changes.proofs.Stands.{stands, first, changes, mapping_step}
use Rattle.test_changes.specs.Files.{piece, first_of, rest_of}
use Rattle.test_changes.specs.Meets.{overlaid, turned_whole}
use Rattle.test_changes.proofs.rows.turns_whole.Goals as goal

pub returns : goal.returns
unfolding computing
returns c = (
  (
    [],
    converted (piece 2 42 3) overlaid,
    stands overlaid (converted (piece 2 42 3) overlaid) (entries.Converted (piece 2 42 3)) (changes overlaid (piece 2 42 3) refl refl (first overlaid 195 refl refl refl refl refl) refl, refl) refl,
    tt,
    (
      [],
      turned_whole,
      mapping_step (converted (piece 2 42 3) overlaid) 42 3 (first_of ((converted (piece 2 42 3) overlaid).chains 0)) (rest_of ((converted (piece 2 42 3) overlaid).chains 0)) refl refl refl refl refl refl refl refl refl,
      tt,
      refl,
    ),
  ),
  refl,
)
