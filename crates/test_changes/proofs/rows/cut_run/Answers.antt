use Rattle.std.specs.Prelude.{refl, [], ◌∷◌, ◌^◌}
use Rattle.test_changes.proofs.Computing.{computing}
use Rattle.test_changes.proofs.Stands.{reserve_step, switch_step, reap_step, fault_step, verdict_step}
use Rattle.fs_model.specs.declared.fault.Fault.TheVariants.{Extra}
use Rattle.fs_model.specs.declared.«record».AnyRec.TheVariants as recs
use Rattle.fs_model.specs.declared.unit.Unit.TheVariants as units
use Rattle.fs_model.specs.declared.verdict.Verdict.TheVariants.{Rebuilt}
use Rattle.fs_change.specs.Changes.{marked, reaped}
use Rattle.fs_change.specs.Choice.{extent}
use Rattle.fs_change.specs.Switch.{switched}
use Rattle.sblock.specs.declared.kind.Kind.TheVariants.{Rmap}
use Rattle.test_states.specs.Images.{mapped as owned, ag}
use Rattle.test_changes.specs.Repairs.{in_blocks}
use Rattle.test_changes.specs.Crashes.{cut_unmapped, unmapped_reserved, unmapped_rebuilt, unmapped_reaped}
use Rattle.test_changes.proofs.rows.cut_run.Goals as goal

pub returns : goal.returns
unfolding computing
returns c = (refl, ([], marked 0 Rmap cut_unmapped, fault_step cut_unmapped units.Rmap (Extra (recs.Rmap (owned 32 6 195 (2 ^ 61)))) refl refl, tt, ([], unmapped_reserved, reserve_step (marked 0 Rmap cut_unmapped) units.Rmap 7 refl refl refl, tt, ([], switched unmapped_reserved 0 units.Rmap (in_blocks (7 ∷ []) []), switch_step unmapped_reserved units.Rmap (in_blocks (7 ∷ []) []) 7 0 refl refl refl ((record { same = λ b. refl; root = refl }), tt) (refl, refl) refl, tt, ([], unmapped_rebuilt, verdict_step (switched unmapped_reserved 0 units.Rmap (in_blocks (7 ∷ []) [])) units.Rmap Rebuilt refl, tt, ([], reaped [] ag (extent 0 5 1) unmapped_rebuilt, reap_step unmapped_rebuilt 5 1 refl refl refl refl, tt, ([], unmapped_reaped, reap_step (reaped [] ag (extent 0 5 1) unmapped_rebuilt) 32 6 refl refl refl refl, tt, refl)))))), refl, (refl, refl, refl, refl))
