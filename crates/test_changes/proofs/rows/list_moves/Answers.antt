use Rattle.std.specs.Prelude.{refl, []}
use Rattle.test_changes.proofs.Computing.{computing}
use Rattle.test_changes.proofs.Stands.{stands}
use Rattle.fs_model.specs.declared.entry.Entry.TheVariants as entries
use Rattle.fs_change.specs.Choice.{extent}
use Rattle.std.proofs.lemmas.Bool.{ltb-true}
use Rattle.fs_change.specs.Changes.{trimmed}
use Rattle.test_changes.specs.Lists.{short_list, filled, long_list, cut_list}
use Rattle.test_changes.proofs.rows.list_moves.Goals as goal

pub returns : goal.returns
unfolding computing
returns c = (([], filled, stands short_list filled (entries.Refilled (extent 0 32 15)) (record { some = ltb-true 0 15 refl; sound = refl; short = ltb-true 1 12 refl; chosen = refl; unowned = refl }, refl) refl, tt, refl), refl, refl, ([], trimmed (extent 0 7 12) long_list, stands long_list (trimmed (extent 0 7 12) long_list) (entries.Trimmed (extent 0 7 12)) (record { some = ltb-true 0 12 refl; sound = refl; on_list = refl }, refl) refl, tt, ([], cut_list, stands (trimmed (extent 0 7 12) long_list) cut_list (entries.Trimmed (extent 0 32 37)) (record { some = ltb-true 0 37 refl; sound = refl; on_list = refl }, refl) refl, tt, refl)), refl, refl, refl, refl)
