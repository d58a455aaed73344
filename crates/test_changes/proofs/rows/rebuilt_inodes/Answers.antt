use Rattle.std.specs.Prelude.{refl, [], ◌∷◌, false}
use Rattle.test_changes.proofs.Computing.{computing}
use Rattle.test_changes.proofs.Stands.{reserve_step, switch_step, reap_step, fault_step, verdict_step}
use Rattle.test_changes.specs.Repairs.{in_blocks, ino_reserved, ino_rebuilt, ino_reaped}
use Rattle.fs_change.specs.Changes.{marked, judged, reserved}
use Rattle.fs_change.specs.Switch.{switched}
use Rattle.fs_model.specs.declared.fault.Fault.TheVariants.{Missing}
use Rattle.fs_model.specs.declared.«record».AnyRec.TheVariants as recs
use Rattle.fs_model.specs.declared.unit.Unit.TheVariants as units
use Rattle.fs_model.specs.declared.verdict.Verdict.TheVariants.{Good, Rebuilt}
use Rattle.sblock.specs.declared.kind.Kind.TheVariants.{Ino}
use Rattle.test_states.specs.Images.{chunk, mask}
use Rattle.test_states.specs.Rows.{short_ino}
use Rattle.test_changes.proofs.rows.rebuilt_inodes.Goals as goal

pub returns : goal.returns
unfolding computing
returns c = (
  refl,
  ([], marked 0 Ino short_ino, fault_step short_ino units.Inode (Missing (recs.Ino (chunk 192 61 mask))) refl refl, tt, ([], reserved [] 0 units.Inode 7 false (marked 0 Ino short_ino), reserve_step (marked 0 Ino short_ino) units.Inode 7 refl refl refl, tt, ([], ino_reserved, reserve_step (reserved [] 0 units.Inode 7 false (marked 0 Ino short_ino)) units.Inode 8 refl refl refl, tt, ([], switched ino_reserved 0 units.Inode (in_blocks (7 ∷ []) (8 ∷ [])), switch_step ino_reserved units.Inode (in_blocks (7 ∷ []) (8 ∷ [])) 7 8 refl refl refl ((record { same = λ b. refl; root = refl }), ((record { same = λ b. refl; root = refl }), tt)) (refl, refl) refl, tt, ([], ino_rebuilt, verdict_step (switched ino_reserved 0 units.Inode (in_blocks (7 ∷ []) (8 ∷ []))) units.Inode Rebuilt refl, tt, ([], judged 0 units.Rmap Good ino_rebuilt, verdict_step ino_rebuilt units.Rmap Good refl, tt, ([], ino_reaped, reap_step (judged 0 units.Rmap Good ino_rebuilt) 3 2 refl refl refl refl, tt, refl))))))),
  refl,
  refl,
  refl,
  refl,
  refl,
)
