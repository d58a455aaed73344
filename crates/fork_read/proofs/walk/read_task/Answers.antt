use Rattle.std.proofs.Common.{◌-◌, ◌<◌, ◌≤◌, ◌∙◌, ap, refl, subst, arith}
use Rattle.blk_device.specs.declared.device.Region.TheVariants.{Image}
use Rattle.std.specs.Prelude.{IfSome}
use Rattle.byte_fields.specs.declared.block.Block.{Block}
use Rattle.dinode_core.specs.ForkTree.{numrecs}
use Rattle.geom.specs.Places.{layout}
use Rattle.fork_read.specs.Answers.{bytes_of}
use Rattle.fork_read.specs.Walk.{last_in, skipped_to, trail_of}
use Rattle.fork_read.proofs.WalkLemmas.{bad_block, leaf_block, leaf_read, node_block, node_read, pushed_falls, pushed_low, pushed_node, with_leaf}
use Rattle.fork_read.proofs.walk.read_task.Goals as goal

pub returns-in_default-clause-read : goal.returns-in_default-clause-read
returns-in_default-clause-read g c = λ m e.
    let found = c.in_ok-found.ensures.found m e in
    bad_block (layout c.args.geo.now) (m Image) c.args.core.now c.args.from c.args.task.now c.args.tasks.now.items (trail_of c.args.seen.now) (found ∙ ap bytes_of c.in_default.is)

pub returns-then-task-eq0-clause-read : goal.returns-then-task-eq0-clause-read
returns-then-task-eq0-clause-read g c = λ m e.
    let found = c.in_ok-found.ensures.found m e in
    leaf_block (layout c.args.geo.now) (m Image) c.args.core.now c.args.from c.args.task.now c.args.tasks.now.items (trail_of c.args.seen.now) (trail_of c.take_leaf.new.seen) c.in-Some.block.bytes c.if-task-eq0.true (found ∙ ap bytes_of c.in-Some.is) (with_leaf c.in-Some.block.bytes (trail_of c.note_block.new.seen) (trail_of c.take_leaf.new.seen) _ c.in_ok-note_block.ensures.trail c.in_ok-take_leaf.ensures.trail)

pub returns-clause-read : goal.returns-clause-read
returns-clause-read g c = λ m e.
    let found = c.in_ok-found.ensures.found m e in
    let high : 0 < c.args.task.now.level = omega (arith, c.if-task-eq0.false) in
    node_block (layout c.args.geo.now) (m Image) c.args.core.now c.args.from c.args.task.now c.args.tasks.now.items c.push_entries.new.tasks.items (trail_of c.args.seen.now) (trail_of c.note_block.new.seen) c.in-Some.block.bytes high (found ∙ ap bytes_of c.in-Some.is) c.in_ok-note_block.ensures.trail (pushed_node c.skipped_at-skipped.result (skipped_to c.args.from (last_in c.args.seen.now.lasts c.args.task.now.level) c.args.task.now.key) (c.args.task.now.level - 1) c.get_u16.result c.in-Some.block.bytes c.args.tasks.now.items c.push_entries.new.tasks.items c.skipped_at-skipped.ensures c.get_u16.ensures c.in_ok-push_entries.ensures.pushed)

pub returns-clause-low : goal.returns-clause-low
returns-clause-low g c =
    pushed_low (skipped_to c.args.from (last_in c.args.seen.now.lasts c.args.task.now.level) c.args.task.now.key) (c.args.task.now.level - 1) c.in-Some.block.bytes c.args.tasks.now.items c.push_entries.new.tasks.items (omega (arith, c.requires.low)) c.requires.all_low (pushed_node c.skipped_at-skipped.result (skipped_to c.args.from (last_in c.args.seen.now.lasts c.args.task.now.level) c.args.task.now.key) (c.args.task.now.level - 1) c.get_u16.result c.in-Some.block.bytes c.args.tasks.now.items c.push_entries.new.tasks.items c.skipped_at-skipped.ensures c.get_u16.ensures c.in_ok-push_entries.ensures.pushed)

pub returns-then-task-eq0-clause-step : goal.returns-then-task-eq0-clause-step
returns-then-task-eq0-clause-step g c = λ m e.
    let found = c.in_ok-found.ensures.found m e in
    leaf_read (layout c.args.geo.now) (m Image) c.args.core.now c.args.from c.args.task.now c.args.tasks.now.items (trail_of c.args.seen.now) (trail_of c.take_leaf.new.seen) c.in-Some.block.bytes c.if-task-eq0.true (found ∙ ap bytes_of c.in-Some.is) (with_leaf c.in-Some.block.bytes (trail_of c.note_block.new.seen) (trail_of c.take_leaf.new.seen) _ c.in_ok-note_block.ensures.trail c.in_ok-take_leaf.ensures.trail)

pub returns-clause-step : goal.returns-clause-step
returns-clause-step g c = λ m e.
    let found = c.in_ok-found.ensures.found m e in
    let high : 0 < c.args.task.now.level = omega (arith, c.if-task-eq0.false) in
    node_read (layout c.args.geo.now) (m Image) c.args.core.now c.args.from c.args.task.now c.args.tasks.now.items c.push_entries.new.tasks.items (trail_of c.args.seen.now) (trail_of c.note_block.new.seen) c.in-Some.block.bytes high (found ∙ ap bytes_of c.in-Some.is) c.in_ok-note_block.ensures.trail (pushed_node c.skipped_at-skipped.result (skipped_to c.args.from (last_in c.args.seen.now.lasts c.args.task.now.level) c.args.task.now.key) (c.args.task.now.level - 1) c.get_u16.result c.in-Some.block.bytes c.args.tasks.now.items c.push_entries.new.tasks.items c.skipped_at-skipped.ensures c.get_u16.ensures c.in_ok-push_entries.ensures.pushed)

pub returns-clause-falls : goal.returns-clause-falls
returns-clause-falls g c = λ high.
    let some : 1 ≤ numrecs c.in-Some.block.bytes = subst (λ o. IfSome o (λ (block : Block). 1 ≤ numrecs block.bytes)) c.in-Some.is c.in_ok-found.ensures.some in
    let same = pushed_falls (skipped_to c.args.from (last_in c.args.seen.now.lasts c.args.task.now.level) c.args.task.now.key) (c.args.task.now.level - 1) c.in-Some.block.bytes c.args.tasks.now.items c.push_entries.new.tasks.items some (pushed_node c.skipped_at-skipped.result (skipped_to c.args.from (last_in c.args.seen.now.lasts c.args.task.now.level) c.args.task.now.key) (c.args.task.now.level - 1) c.get_u16.result c.in-Some.block.bytes c.args.tasks.now.items c.push_entries.new.tasks.items c.skipped_at-skipped.ensures c.get_u16.ensures c.in_ok-push_entries.ensures.pushed) in
    omega (arith, same, high)

pub returns-in_default-clause-step : goal.returns-in_default-clause-step
returns-in_default-clause-step g c = λ m e.
    let found = c.in_ok-found.ensures.found m e in
    (found ∙ ap bytes_of c.in_default.is, refl)
