use Rattle.std.specs.Prelude.{refl, [], false}
use Rattle.test_changes.proofs.Computing.{computing}
use Rattle.test_changes.proofs.Stands.{stands, first, changes, mapping_step, count_step, free_step}
use Rattle.fs_model.specs.declared.entry.Entry.TheVariants as entries
use Rattle.fs_change.specs.Changes.{unmapped}
use Rattle.test_changes.specs.Files.{piece, first_of, rest_of, lost_one, lost_both, all_freed, step_mapping}
use Rattle.test_states.specs.Rows.{shared_forty}
use Rattle.test_changes.proofs.rows.shrinking_file.Goals as goal

pub returns : goal.returns
unfolding computing
returns c = (
  (
    [],
    unmapped (piece 5 40 1) shared_forty,
    stands (shared_forty) (unmapped (piece 5 40 1) (shared_forty)) (entries.Unmapped (piece 5 40 1)) (changes (shared_forty) (piece 5 40 1) refl refl (first (shared_forty) 195 refl refl refl refl refl) refl, refl) refl,
    tt,
    (
      [],
      step_mapping (unmapped (piece 5 40 1) shared_forty),
      mapping_step (unmapped (piece 5 40 1) shared_forty) 40 1 (first_of ((unmapped (piece 5 40 1) shared_forty).chains 0)) (rest_of ((unmapped (piece 5 40 1) shared_forty).chains 0)) refl refl refl refl refl refl refl refl refl,
      tt,
      (
        [],
        lost_one,
        count_step (step_mapping (unmapped (piece 5 40 1) shared_forty)) 40 1 false (first_of ((step_mapping (unmapped (piece 5 40 1) shared_forty)).chains 0)) (rest_of ((step_mapping (unmapped (piece 5 40 1) shared_forty)).chains 0)) refl refl refl refl refl refl refl refl,
        tt,
        refl,
      ),
    ),
  ),
  refl,
  refl,
  refl,
  (
    [],
    unmapped (piece 0 40 1) lost_one,
    stands (lost_one) (unmapped (piece 0 40 1) (lost_one)) (entries.Unmapped (piece 0 40 1)) (changes (lost_one) (piece 0 40 1) refl refl (first (lost_one) 195 refl refl refl refl refl) refl, refl) refl,
    tt,
    (
      [],
      step_mapping (unmapped (piece 0 40 1) lost_one),
      mapping_step (unmapped (piece 0 40 1) lost_one) 40 1 (first_of ((unmapped (piece 0 40 1) lost_one).chains 0)) (rest_of ((unmapped (piece 0 40 1) lost_one).chains 0)) refl refl refl refl refl refl refl refl refl,
      tt,
      (
        [],
        lost_both,
        count_step (step_mapping (unmapped (piece 0 40 1) lost_one)) 40 1 false (first_of ((step_mapping (unmapped (piece 0 40 1) lost_one)).chains 0)) (rest_of ((step_mapping (unmapped (piece 0 40 1) lost_one)).chains 0)) refl refl refl refl refl refl refl refl,
        tt,
        (
          [],
          all_freed,
          free_step (lost_both) 40 1 false (first_of ((lost_both).chains 0)) (rest_of ((lost_both).chains 0)) refl refl refl refl refl refl refl refl refl,
          tt,
          refl,
        ),
      ),
    ),
  ),
  refl,
  refl,
  refl,
)
