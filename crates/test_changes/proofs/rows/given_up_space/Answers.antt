use Rattle.std.specs.Prelude.{refl, []}
use Rattle.test_changes.proofs.Computing.{computing}
use Rattle.test_changes.proofs.Stands.{fault_step, verdict_step}
use Rattle.fs_model.specs.declared.fault.Fault.TheVariants.{Block}
use Rattle.fs_model.specs.declared.unit.Unit.TheVariants as units
use Rattle.fs_model.specs.declared.verdict.Reason.TheVariants.{Space}
use Rattle.fs_model.specs.declared.verdict.Verdict.TheVariants.{GaveUp}
use Rattle.fs_change.specs.Changes.{marked}
use Rattle.sblock.specs.declared.block.BlockFault.TheVariants.{Checksum}
use Rattle.sblock.specs.declared.kind.Kind.TheVariants.{Bno}
use Rattle.test_states.specs.Rows.{full}
use Rattle.test_changes.specs.Crashes.{nothing_left}
use Rattle.test_changes.proofs.rows.given_up_space.Goals as goal

pub returns : goal.returns
unfolding computing
returns c = (refl, refl, refl, refl, ([], marked 0 Bno full, fault_step full units.Free (Block Bno 1 Checksum) refl refl, tt, ([], nothing_left, verdict_step (marked 0 Bno full) units.Free (GaveUp (Space 0 2)) refl, tt, refl)))
