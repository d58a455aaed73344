use Rattle.std.specs.Prelude.{refl, [], true, None}
use Rattle.test_changes.proofs.Computing.{computing}
use Rattle.test_changes.proofs.Stands.{stands, first, owner_step}
use Rattle.fs_model.specs.declared.entry.Entry.TheVariants as entries
use Rattle.std.proofs.lemmas.Bool.{ltb-true}
use Rattle.test_changes.specs.Files.{first_of, rest_of}
use Rattle.test_changes.specs.Scans.{four_of, one_later, behind_taken, behind_mapped, behind_done}
use Rattle.test_changes.proofs.rows.behind_cursor.Goals as goal

pub returns : goal.returns
unfolding computing
returns c = (([], behind_taken, stands one_later behind_taken (entries.Taken 1 195 7 None) (195, (λ g. true, refl, (0, ltb-true 0 1 refl, refl), refl, refl), refl, refl) refl, tt, ([], behind_mapped, stands (behind_taken) (behind_mapped) (entries.Mapped (four_of 195)) (record { some = ltb-true 0 4 refl; first = first (behind_taken) 195 refl refl refl refl refl; unmapped = refl; chosen = (λ g. true, 4, refl); unowned = refl }, refl) refl, tt, ([], behind_done, owner_step (behind_mapped) 195 19 4 (first_of ((behind_mapped).chains 0)) (rest_of ((behind_mapped).chains 0)) refl refl refl refl refl refl refl refl refl, tt, refl))), refl, refl, refl, refl)
