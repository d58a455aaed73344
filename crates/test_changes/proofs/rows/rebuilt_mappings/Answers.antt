use Rattle.std.specs.Prelude.{refl, [], ◌∷◌}
use Rattle.test_changes.proofs.Computing.{computing}
use Rattle.test_changes.proofs.Stands.{reserve_step, switch_step, reap_step, fault_step, verdict_step}
use Rattle.test_changes.specs.Repairs.{in_blocks, rmap_reserved, rmap_rebuilt, rmap_reaped}
use Rattle.fs_change.specs.Changes.{marked}
use Rattle.fs_change.specs.Switch.{switched}
use Rattle.fs_model.specs.declared.fault.Fault.TheVariants.{Missing}
use Rattle.fs_model.specs.declared.«record».AnyRec.TheVariants as recs
use Rattle.fs_model.specs.declared.unit.Unit.TheVariants as units
use Rattle.fs_model.specs.declared.verdict.Verdict.TheVariants.{Rebuilt}
use Rattle.sblock.specs.declared.kind.Kind.TheVariants.{Rmap}
use Rattle.test_states.specs.Images.{mapped as owned, inodes}
use Rattle.test_states.specs.Rows.{short_rmap}
use Rattle.test_changes.proofs.rows.rebuilt_mappings.Goals as goal

pub returns : goal.returns
unfolding computing
returns c = (
  refl,
  (
    [],
    marked 0 Rmap short_rmap,
    fault_step short_rmap units.Rmap (Missing (recs.Rmap (owned 24 8 inodes 0))) refl refl,
    tt,
    (
      [],
      rmap_reserved,
      reserve_step (marked 0 Rmap short_rmap) units.Rmap 7 refl refl refl,
      tt,
      (
        [],
        switched rmap_reserved 0 units.Rmap (in_blocks (7 ∷ []) []),
        switch_step rmap_reserved units.Rmap (in_blocks (7 ∷ []) []) 7 0 refl refl refl ((record { same = λ b. refl; root = refl }), tt) (refl, refl) refl,
        tt,
        (
          [],
          rmap_rebuilt,
          verdict_step (switched rmap_reserved 0 units.Rmap (in_blocks (7 ∷ []) [])) units.Rmap Rebuilt refl,
          tt,
          (
            [],
            rmap_reaped,
            reap_step rmap_rebuilt 5 1 refl refl refl refl,
            tt,
            refl,
          ),
        ),
      ),
    ),
  ),
  refl,
  refl,
  refl,
  refl,
  refl,
  refl,
)
