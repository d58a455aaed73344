use Rattle.std.specs.Prelude.{refl, [], ◌∷◌}
use Rattle.test_changes.proofs.Computing.{computing}
use Rattle.test_changes.proofs.Stands.{stands, leaves_one}
use Rattle.fs_model.specs.declared.entry.Entry.TheVariants as entries
use Rattle.std.proofs.lemmas.Bool.{ltb-true, leb-true}
use Rattle.test_changes.specs.Lists.{before_step, left_alone, and_marked}
use Rattle.test_changes.specs.Files.{first_of, rest_of}
use Rattle.sblock.specs.declared.kind.Kind.TheVariants.{Rmap}
use Rattle.fs_model.specs.declared.fault.Cause.TheVariants.{Short}
use Rattle.test_changes.proofs.rows.left_alone.Goals as goal

pub returns : goal.returns
unfolding computing leaves_one
returns c = ((Rmap ∷ [], left_alone, leaves_one before_step 32 6 (first_of (before_step.chains 0)) (rest_of (before_step.chains 0)) refl refl refl refl refl refl refl refl refl, tt, ((refl, refl, (ltb-true 0 2 refl, ltb-true 2 3 refl, (leb-true 0 2 refl, leb-true 0 0 refl))), and_marked, stands left_alone and_marked (entries.Marked 0 Rmap (Short 0 2)) (refl, ltb-true 0 2 refl, refl) refl, refl)), refl, refl)
