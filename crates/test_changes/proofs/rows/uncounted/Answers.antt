use Rattle.test_changes.proofs.Computing.{computing}
use Rattle.std.specs.Prelude.{refl, [], true, None}
use Rattle.test_changes.proofs.Stands.{stands}
use Rattle.std.proofs.lemmas.Bool.{ltb-true}
use Rattle.fs_model.specs.declared.entry.Entry.TheVariants as entries
use Rattle.test_changes.specs.Bounds.{uncounted, uncounted_file}
use Rattle.test_changes.proofs.rows.uncounted.Goals as goal

pub returns : goal.returns
unfolding computing
returns c = (([], uncounted_file, stands uncounted uncounted_file (entries.Taken 1 195 7 None) (195, (λ g. true, refl, (0, ltb-true 0 1 refl, refl), refl, refl), refl, refl) refl, tt, refl), refl, refl, refl)
