use Rattle.std.specs.Prelude.{refl, [], true}
use Rattle.test_changes.proofs.Computing.{computing}
use Rattle.test_changes.proofs.Stands.{stands, free_step}
use Rattle.fs_model.specs.declared.entry.Entry.TheVariants as entries
use Rattle.test_changes.specs.Files.{first_of, rest_of, with_owner, kept_block, step_free}
use Rattle.sblock.specs.declared.kind.Kind.TheVariants.{Refc}
use Rattle.fs_model.specs.declared.fault.Cause.TheVariants.{Owner}
use Rattle.test_changes.proofs.rows.owner_found.Goals as goal

pub returns : goal.returns
unfolding computing
returns c = (
  (
    [],
    step_free true 40 1 with_owner,
    free_step (with_owner) 40 1 true (first_of ((with_owner).chains 0)) (rest_of ((with_owner).chains 0)) refl refl refl refl refl refl refl refl refl,
    tt,
    ((refl, refl, tt), kept_block, stands (step_free true 40 1 with_owner) kept_block (entries.Marked 0 Refc Owner) (refl, tt, refl) refl, refl),
  ),
  refl,
  refl,
)
