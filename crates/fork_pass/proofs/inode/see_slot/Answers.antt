use Rattle.std.proofs.Common.{sym, ◌∙◌, arith}
use Rattle.std.proofs.lemmas.Result.{IfOk-weaker}
use Rattle.blk_device.specs.declared.device.Region.TheVariants.{Image}
use Rattle.fs_state.specs.Inodes.{slot_in}
use Rattle.geom.specs.Places.{layout}
use Rattle.fork_pass.proofs.ForkLemmas.{core_counted, core_slot, free_slot}
use Rattle.fork_pass.proofs.inode.see_slot.Goals as goal

pub returns-then-mode_in-eq0-clause-exact : goal.returns-then-mode_in-eq0-clause-exact
returns-then-mode_in-eq0-clause-exact g c = λ m e whole.
    free_slot (layout c.args.geo.now) (m Image) c.args.ino (slot_in c.args.block.now.bytes c.args.slot) c.args.sets.now (sym c.mode_in.ensures ∙ c.if-mode_in-eq0.true)

pub returns-clause-exact : goal.returns-clause-exact
returns-clause-exact g c =
    IfOk-weaker c.see_allocated.result _ _ (λ found h m e whole.
    core_slot (layout c.args.geo.now) (m Image) c.args.ino (slot_in c.args.block.now.bytes c.args.slot) c.core_at-core.result c.args.sets.now c.see_allocated.new.sets found whole c.core_at-core.ensures c.mode_in.result (sym c.mode_in.ensures) c.if-mode_in-eq0.false (h m e)) c.see_allocated.ensures.exact

pub returns-then-mode_in-eq0-clause-each : goal.returns-then-mode_in-eq0-clause-each
returns-then-mode_in-eq0-clause-each g c = λ m e. omega arith

pub returns-clause-each : goal.returns-clause-each
returns-clause-each g c = λ m e.
    core_counted (layout c.args.geo.now) (m Image) (slot_in c.args.block.now.bytes c.args.slot) c.core_at-core.result c.mode_in.result c.args.steps.now.reads c.see_allocated.new.steps.reads (sym c.mode_in.ensures) c.if-mode_in-eq0.false c.core_at-core.ensures (c.see_allocated.ensures.each m e)
