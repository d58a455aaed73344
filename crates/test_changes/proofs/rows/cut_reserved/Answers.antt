use Rattle.std.specs.Prelude.{refl, [], ◌∷◌}
use Rattle.test_changes.proofs.Computing.{computing}
use Rattle.test_changes.proofs.Stands.{reserve_step, switch_step, reap_step, fault_step, verdict_step}
use Rattle.fs_model.specs.declared.fault.Fault.TheVariants.{Missing}
use Rattle.fs_model.specs.declared.«record».AnyRec.TheVariants as recs
use Rattle.fs_model.specs.declared.unit.Unit.TheVariants as units
use Rattle.fs_model.specs.declared.verdict.Verdict.TheVariants.{Rebuilt}
use Rattle.fs_change.specs.Changes.{marked, reaped}
use Rattle.fs_change.specs.Choice.{extent}
use Rattle.fs_change.specs.Switch.{switched}
use Rattle.sblock.specs.declared.kind.Kind.TheVariants.{Rmap}
use Rattle.test_states.specs.Images.{mapped as owned, ag, inodes}
use Rattle.test_changes.specs.Repairs.{in_blocks}
use Rattle.test_changes.specs.Crashes.{cut_reserved, again_reserved, again_rebuilt, again_reaped}
use Rattle.test_changes.proofs.rows.cut_reserved.Goals as goal

pub returns : goal.returns
unfolding computing
returns c = (refl, refl, ([], marked 0 Rmap cut_reserved, fault_step cut_reserved units.Rmap (Missing (recs.Rmap (owned 24 8 inodes 0))) refl refl, tt, ([], again_reserved cut_reserved, reserve_step (marked 0 Rmap cut_reserved) units.Rmap 8 refl refl refl, tt, ([], switched (again_reserved cut_reserved) 0 units.Rmap (in_blocks (8 ∷ []) []), switch_step (again_reserved cut_reserved) units.Rmap (in_blocks (8 ∷ []) []) 8 0 refl refl refl ((record { same = λ b. refl; root = refl }), tt) (refl, refl) refl, tt, ([], again_rebuilt cut_reserved, verdict_step (switched (again_reserved cut_reserved) 0 units.Rmap (in_blocks (8 ∷ []) [])) units.Rmap Rebuilt refl, tt, ([], reaped [] ag (extent 0 5 1) (again_rebuilt cut_reserved), reap_step (again_rebuilt cut_reserved) 5 1 refl refl refl refl, tt, ([], again_reaped cut_reserved, reap_step (reaped [] ag (extent 0 5 1) (again_rebuilt cut_reserved)) 7 1 refl refl refl refl, tt, refl)))))), refl, (refl, refl, refl, refl))
