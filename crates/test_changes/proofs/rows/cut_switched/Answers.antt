use Rattle.std.specs.Prelude.{refl, [], ◌∷◌}
use Rattle.test_changes.proofs.Computing.{computing}
use Rattle.test_changes.proofs.Stands.{reserve_step, switch_step, reap_step, fault_step, verdict_step}
use Rattle.fs_model.specs.declared.fault.Fault.TheVariants.{Extra}
use Rattle.fs_model.specs.declared.«record».AnyRec.TheVariants as recs
use Rattle.fs_model.specs.declared.unit.Unit.TheVariants as units
use Rattle.fs_model.specs.declared.verdict.Verdict.TheVariants.{Rebuilt}
use Rattle.fs_change.specs.Changes.{marked, reaped}
use Rattle.fs_change.specs.Choice.{extent}
use Rattle.fs_change.specs.Switch.{switched}
use Rattle.sblock.specs.declared.kind.Kind.TheVariants.{Rmap}
use Rattle.test_states.specs.Images.{mapped as owned, ag}
use Rattle.test_changes.specs.Repairs.{in_blocks}
use Rattle.test_changes.specs.Crashes.{cut_switched, again_reserved, again_rebuilt, again_reaped}
use Rattle.test_changes.proofs.rows.cut_switched.Goals as goal

pub returns : goal.returns
unfolding computing
returns c = (refl, ([], marked 0 Rmap cut_switched, fault_step cut_switched units.Rmap (Extra (recs.Rmap (owned 5 1 ag 0))) refl refl, tt, ([], again_reserved cut_switched, reserve_step (marked 0 Rmap cut_switched) units.Rmap 8 refl refl refl, tt, ([], switched (again_reserved cut_switched) 0 units.Rmap (in_blocks (8 ∷ []) []), switch_step (again_reserved cut_switched) units.Rmap (in_blocks (8 ∷ []) []) 8 0 refl refl refl ((record { same = λ b. refl; root = refl }), tt) (refl, refl) refl, tt, ([], again_rebuilt cut_switched, verdict_step (switched (again_reserved cut_switched) 0 units.Rmap (in_blocks (8 ∷ []) [])) units.Rmap Rebuilt refl, tt, ([], reaped [] ag (extent 0 5 1) (again_rebuilt cut_switched), reap_step (again_rebuilt cut_switched) 5 1 refl refl refl refl, tt, ([], again_reaped cut_switched, reap_step (reaped [] ag (extent 0 5 1) (again_rebuilt cut_switched)) 7 1 refl refl refl refl, tt, refl)))))), refl, (refl, refl, refl, refl), (refl, refl, refl, refl))
