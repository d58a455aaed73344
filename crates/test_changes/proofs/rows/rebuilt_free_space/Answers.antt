use Rattle.std.specs.Prelude.{refl, [], ◌∷◌, false}
use Rattle.test_changes.proofs.Computing.{computing}
use Rattle.test_changes.proofs.Stands.{reserve_step, switch_step, reap_step, fault_step, verdict_step}
use Rattle.test_changes.specs.Repairs.{in_blocks, free_reserved, free_rebuilt, free_reaped}
use Rattle.fs_change.specs.Changes.{marked, judged, reserved}
use Rattle.fs_change.specs.Switch.{switched}
use Rattle.fs_model.specs.declared.fault.Fault.TheVariants.{Block}
use Rattle.fs_model.specs.declared.unit.Unit.TheVariants as units
use Rattle.fs_model.specs.declared.verdict.Verdict.TheVariants.{Good, Rebuilt}
use Rattle.sblock.specs.declared.block.BlockFault.TheVariants.{Checksum}
use Rattle.sblock.specs.declared.kind.Kind.TheVariants.{Bno}
use Rattle.test_states.specs.Rows.{unread_free}
use Rattle.test_changes.proofs.rows.rebuilt_free_space.Goals as goal

pub returns : goal.returns
unfolding computing
returns c = (
  refl,
  ([], judged 0 units.Inode Good unread_free, verdict_step unread_free units.Inode Good refl, tt, ([], judged 0 units.Rmap Good (judged 0 units.Inode Good unread_free), verdict_step (judged 0 units.Inode Good unread_free) units.Rmap Good refl, tt, ([], marked 0 Bno (judged 0 units.Rmap Good (judged 0 units.Inode Good unread_free)), fault_step (judged 0 units.Rmap Good (judged 0 units.Inode Good unread_free)) units.Free (Block Bno 1 Checksum) refl refl, tt, ([], reserved [] 0 units.Free 7 false (marked 0 Bno (judged 0 units.Rmap Good (judged 0 units.Inode Good unread_free))), reserve_step (marked 0 Bno (judged 0 units.Rmap Good (judged 0 units.Inode Good unread_free))) units.Free 7 refl refl refl, tt, ([], free_reserved, reserve_step (reserved [] 0 units.Free 7 false (marked 0 Bno (judged 0 units.Rmap Good (judged 0 units.Inode Good unread_free)))) units.Free 8 refl refl refl, tt, ([], switched free_reserved 0 units.Free (in_blocks (7 ∷ []) (8 ∷ [])), switch_step free_reserved units.Free (in_blocks (7 ∷ []) (8 ∷ [])) 7 8 refl refl refl ((record { same = λ b. refl; root = refl }), ((record { same = λ b. refl; root = refl }), tt)) (refl, refl) refl, tt, ([], free_rebuilt, verdict_step (switched free_reserved 0 units.Free (in_blocks (7 ∷ []) (8 ∷ []))) units.Free Rebuilt refl, tt, ([], free_reaped, reap_step free_rebuilt 1 2 refl refl refl refl, tt, refl)))))))),
  refl,
  refl,
  refl,
  refl,
  refl,
  refl,
  refl,
  refl,
)
