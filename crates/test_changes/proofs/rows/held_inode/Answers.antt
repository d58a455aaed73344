use Rattle.std.specs.Prelude.{refl, [], ◌∷◌, true}
use Rattle.test_changes.proofs.Computing.{computing}
use Rattle.test_changes.proofs.Stands.{stands, first, owner_step, reserve_step, switch_step, verdict_step}
use Rattle.fs_model.specs.declared.entry.Entry.TheVariants as entries
use Rattle.fs_model.specs.declared.unit.Unit.TheVariants as units
use Rattle.std.proofs.lemmas.Bool.{ltb-true}
use Rattle.fs_model.specs.declared.verdict.Verdict.TheVariants.{Rebuilt}
use Rattle.fs_change.specs.Switch.{switched}
use Rattle.test_changes.specs.Files.{first_of, rest_of}
use Rattle.test_changes.specs.Repairs.{in_blocks}
use Rattle.test_changes.specs.Scans.{four_of, two_empty, held_mapped, held_done, held_reserved, held_rebuilt}
use Rattle.test_changes.proofs.rows.held_inode.Goals as goal

pub returns : goal.returns
unfolding computing
returns c = (([], held_mapped, stands (two_empty) (held_mapped) (entries.Mapped (four_of 196)) (record { some = ltb-true 0 4 refl; first = first (two_empty) 196 refl refl refl refl refl; unmapped = refl; chosen = (λ g. true, 4, refl); unowned = refl }, refl) refl, tt, ([], held_done, owner_step (held_mapped) 196 19 4 (first_of ((held_mapped).chains 0)) (rest_of ((held_mapped).chains 0)) refl refl refl refl refl refl refl refl refl, tt, ([], held_reserved, reserve_step held_done units.Rmap 7 refl refl refl, tt, ([], switched held_reserved 0 units.Rmap (in_blocks (7 ∷ []) []), switch_step held_reserved units.Rmap (in_blocks (7 ∷ []) []) 7 0 refl refl refl ((record { same = λ b. refl; root = refl }), tt) (refl, refl) refl, tt, ([], held_rebuilt, verdict_step (switched held_reserved 0 units.Rmap (in_blocks (7 ∷ []) [])) units.Rmap Rebuilt refl, tt, refl))))), refl, refl, refl, refl, refl, refl, refl)
