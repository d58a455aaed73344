use Rattle.std.proofs.Common.{◌≡◌, ◌+◌, ◌<◌, ◌≤◌, ◌∙◌, length, ap, refl, subst, sym, arith}
use Rattle.blk_device.specs.ReadingLaws.{nothing_read, read_on}
use Rattle.blk_device.specs.declared.device.Region.TheVariants.{Image}
use Rattle.geom.specs.Places.{layout}
use Rattle.fork_read.specs.Answers.{AllLow, HasRead, IfRead, first_level, given_of}
use Rattle.fork_read.specs.Stuck.{HasGone}
use Rattle.fork_read.specs.Walk.{trail_of, walk_tasks}
use Rattle.fork_read.proofs.SpendLemmas.{paid_all, paid_end}
use Rattle.fork_read.proofs.EndLemmas.{border_next, broken_at, few_given, goes_down, goes_near, has_late, is_leaf, is_node, low_start, none_left, reached_end, stepped}
use Rattle.fork_read.proofs.WalkLemmas.{leaves_first, leaves_next, none_popped, read_one}
use Rattle.fork_read.proofs.walk.walk_on.Goals as goal

pub returns-in_default-clause-stopped : goal.returns-in_default-clause-stopped
returns-in_default-clause-stopped g c = λ m e.
    let none : length c.loop-i.tasks.items ≡ 0 = omega (arith, c.in_default.ensures.cases.0) in
    c.loop-i.invariant.goes_on m e ∙ none_popped (layout c.args.geo.now) (m Image) c.args.core.now c.args.from c.loop-i.tasks.items (trail_of c.loop-i.seen) none

pub returns-in_err-read-clause-reading : goal.returns-in_err-read-clause-reading
returns-in_err-read-clause-reading g c =
    read_on g.D.Device g.met.D.Device.only_now g.met.D.Device.counts_now c.args.dev.now c.loop-i.dev c.read_task.new.dev c.args.steps.now c.loop-i.steps c.read_task.new.steps c.loop-i.invariant.reading c.read_task.ensures.reading

pub returns-then-not-read-clause-reading : goal.returns-then-not-read-clause-reading
returns-then-not-read-clause-reading g c =
    read_on g.D.Device g.met.D.Device.only_now g.met.D.Device.counts_now c.args.dev.now c.loop-i.dev c.read_task.new.dev c.args.steps.now c.loop-i.steps c.read_task.new.steps c.loop-i.invariant.reading c.read_task.ensures.reading

pub loop-i-init : goal.loop-i-init
loop-i-init g c = record {
  goes_on = λ m e. refl;
  comes = λ m e. leaves_first (layout c.args.geo.now) (m Image) c.args.core.now c.args.from c.args.tasks.now.items (trail_of c.args.seen.now);
  border = λ m e h. cc;
  falls = λ h. low_start c.args.tasks.now.items c.requires.low;
  near = omega arith;
  low = c.requires.low;
  most = omega (arith, c.requires.fresh);
  less = λ h. c.requires.fresh;
  reading = nothing_read g.D.Device g.met.D.Device.only_now g.met.D.Device.counts_now c.args.dev.now c.args.steps.now;
  calm = refl;
  few = omega arith;
}

pub loop-i-preserved : goal.loop-i-preserved
loop-i-preserved g c = record {
  goes_on = λ m e.
      let before = walk_tasks (layout c.args.geo.now) (m Image) c.args.core.now c.args.from c.args.tasks.now.items (trail_of c.args.seen.now) in
      let after = walk_tasks (layout c.args.geo.now) (m Image) c.args.core.now c.args.from c.read_task.new.tasks.items (trail_of c.read_task.new.seen) in
      let step = read_one (layout c.args.geo.now) (m Image) c.args.core.now c.args.from c.in-Some.task c.loop-i.tasks.items c.pop_front.new.self.items (trail_of c.loop-i.seen) c.in_ok-read.read before after (trail_of c.read_task.new.seen) c.in-Some.ensures.items (c.loop-i.invariant.goes_on m e) (c.in_ok-read.ensures.read m (c.loop-i.invariant.reading.same ∙ e)) in
      subst (λ b. HasRead before b after (trail_of c.read_task.new.seen)) c.if-not-read.false step;
  comes = λ m e.
      let step = stepped (layout c.args.geo.now) (m Image) c.args.core.now c.args.from c.in-Some.task c.pop_front.new.self.items c.read_task.new.tasks.items (trail_of c.loop-i.seen) (trail_of c.read_task.new.seen) c.in_ok-read.read c.if-not-read.false (c.in_ok-read.ensures.step m (c.loop-i.invariant.reading.same ∙ e)) in
      leaves_next (layout c.args.geo.now) (m Image) c.args.core.now c.args.from c.args.tasks.now.items c.loop-i.tasks.items c.pop_front.new.self.items c.read_task.new.tasks.items (trail_of c.args.seen.now) (trail_of c.loop-i.seen) (trail_of c.read_task.new.seen) c.loop-i.i c.in-Some.task c.in-Some.ensures.items (c.loop-i.invariant.comes m e) step;
  low = c.in_ok-read.ensures.low;
  border = λ m e h.
      let step = stepped (layout c.args.geo.now) (m Image) c.args.core.now c.args.from c.in-Some.task c.pop_front.new.self.items c.read_task.new.tasks.items (trail_of c.loop-i.seen) (trail_of c.read_task.new.seen) c.in_ok-read.read c.if-not-read.false (c.in_ok-read.ensures.step m (c.loop-i.invariant.reading.same ∙ e)) in
      border_next (layout c.args.geo.now) (m Image) c.args.core.now c.args.from c.args.tasks.now.items c.loop-i.tasks.items c.pop_front.new.self.items c.read_task.new.tasks.items (trail_of c.args.seen.now) (trail_of c.loop-i.seen) (trail_of c.read_task.new.seen) c.loop-i.i c.in-Some.task c.in-Some.ensures.items (c.loop-i.invariant.comes m e) step (is_leaf c.in-Some.task.level h);
  falls = λ h. goes_down c.loop-i.is_border c.loop-i.i (given_of c.args.from c.loop-i.seen.mappings.items) c.in-Some.task.level (first_level c.read_task.new.tasks.items) (sym c.has_enough.ensures ∙ c.if-has_enough.false) (λ b. subst (λ xs. c.loop-i.i + first_level xs ≤ 97) c.in-Some.ensures.items (c.loop-i.invariant.falls b)) (subst AllLow c.in-Some.ensures.items c.loop-i.invariant.low).0 (subst (λ b. IfRead b (0 < c.in-Some.task.level → first_level c.read_task.new.tasks.items < c.in-Some.task.level)) c.if-not-read.false c.in_ok-read.ensures.falls) h;
  near = goes_near c.loop-i.is_border c.loop-i.i (given_of c.args.from c.loop-i.seen.mappings.items) c.in-Some.task.level (sym c.has_enough.ensures ∙ c.if-has_enough.false) (λ b. subst (λ xs. c.loop-i.i + first_level xs ≤ 97) c.in-Some.ensures.items (c.loop-i.invariant.falls b));
  most =
      let grown = c.in_ok-read.ensures.grows c.args.from in
      let few = few_given c.loop-i.is_border c.loop-i.i (given_of c.args.from c.loop-i.seen.mappings.items) (sym c.has_enough.ensures ∙ c.if-has_enough.false) c.loop-i.invariant.less in
      omega (arith, grown, few);
  less = λ h.
      let few = few_given c.loop-i.is_border c.loop-i.i (given_of c.args.from c.loop-i.seen.mappings.items) (sym c.has_enough.ensures ∙ c.if-has_enough.false) c.loop-i.invariant.less in
      let same = ap (given_of c.args.from) (c.in_ok-read.ensures.stays (is_node c.in-Some.task.level h)) in
      omega (arith, same, few);
  reading = read_on g.D.Device g.met.D.Device.only_now g.met.D.Device.counts_now c.args.dev.now c.loop-i.dev c.read_task.new.dev c.args.steps.now c.loop-i.steps c.read_task.new.steps c.loop-i.invariant.reading c.read_task.ensures.reading;
  calm = c.in_ok-read.ensures.cause ∙ c.loop-i.invariant.calm;
  few = omega (arith, c.in_ok-read.ensures.few, c.loop-i.invariant.few);
}

pub returns-in_default-clause-reached : goal.returns-in_default-clause-reached
returns-in_default-clause-reached g c = λ m e.
    let none : length c.loop-i.tasks.items ≡ 0 = omega (arith, c.in_default.ensures.cases.0) in
    none_left (layout c.args.geo.now) (m Image) c.args.core.now c.args.from c.args.tasks.now.items c.loop-i.tasks.items (trail_of c.args.seen.now) (trail_of c.loop-i.seen) c.loop-i.i none (c.loop-i.invariant.comes m e)

pub returns-then-not-read-clause-reached : goal.returns-then-not-read-clause-reached
returns-then-not-read-clause-reached g c = λ m e.
    broken_at (layout c.args.geo.now) (m Image) c.args.core.now c.args.from c.args.tasks.now.items c.loop-i.tasks.items c.pop_front.new.self.items c.read_task.new.tasks.items (trail_of c.args.seen.now) (trail_of c.loop-i.seen) (trail_of c.read_task.new.seen) c.loop-i.i c.in-Some.task c.in_ok-read.read c.in-Some.ensures.items (c.loop-i.invariant.comes m e) c.if-not-read.true (c.in_ok-read.ensures.step m (c.loop-i.invariant.reading.same ∙ e))

pub returns-then-has_enough-clause-reached : goal.returns-then-has_enough-clause-reached
returns-then-has_enough-clause-reached g c = λ m e.
    let late = has_late c.loop-i.is_border c.loop-i.i (given_of c.args.from c.loop-i.seen.mappings.items) (sym c.has_enough.ensures ∙ c.if-has_enough.true) in
    subst (λ stop. HasGone (layout c.args.geo.now) (m Image) c.args.core.now c.args.from c.args.tasks.now.items (trail_of c.args.seen.now) stop c.pop_front.new.self.items (trail_of c.loop-i.seen)) (sym c.end_at.ensures) (reached_end (layout c.args.geo.now) (m Image) c.args.core.now c.args.from c.args.tasks.now.items c.loop-i.tasks.items c.pop_front.new.self.items (trail_of c.args.seen.now) (trail_of c.loop-i.seen) c.in-Some.task c.in-Some.ensures.items c.loop-i.i (c.loop-i.invariant.border m e late.0) late.1)

pub returns-in_default-clause-spent : goal.returns-in_default-clause-spent
returns-in_default-clause-spent g c = λ m e.
    record { count = c.loop-i.i; left = c.loop-i.tasks.items; after = trail_of c.loop-i.seen; leaves = c.loop-i.invariant.comes m e; few = omega (arith, c.loop-i.invariant.few) }

pub returns-in_default-clause-paid : goal.returns-in_default-clause-paid
returns-in_default-clause-paid g c = λ m e.
    let none : length c.loop-i.tasks.items ≡ 0 = omega (arith, c.in_default.ensures.cases.0) in
    paid_all (layout c.args.geo.now) (m Image) c.args.core.now c.args.from c.args.tasks.now.items c.loop-i.tasks.items (trail_of c.args.seen.now) (trail_of c.loop-i.seen) c.loop-i.i c.args.steps.now.reads c.loop-i.steps.reads none (c.loop-i.invariant.comes m e) c.loop-i.invariant.few

pub returns-in_err-read-clause-spent : goal.returns-in_err-read-clause-spent
returns-in_err-read-clause-spent g c = λ m e.
    record { count = c.loop-i.i; left = c.loop-i.tasks.items; after = trail_of c.loop-i.seen; leaves = c.loop-i.invariant.comes m e; few = omega (arith, c.loop-i.invariant.few, c.read_task.ensures.few) }

pub returns-then-not-read-clause-spent : goal.returns-then-not-read-clause-spent
returns-then-not-read-clause-spent g c = λ m e.
    record { count = c.loop-i.i; left = c.loop-i.tasks.items; after = trail_of c.loop-i.seen; leaves = c.loop-i.invariant.comes m e; few = omega (arith, c.loop-i.invariant.few, c.read_task.ensures.few) }

pub returns-then-has_enough-clause-spent : goal.returns-then-has_enough-clause-spent
returns-then-has_enough-clause-spent g c = λ m e.
    record { count = c.loop-i.i; left = c.loop-i.tasks.items; after = trail_of c.loop-i.seen; leaves = c.loop-i.invariant.comes m e; few = omega (arith, c.loop-i.invariant.few) }

pub returns-then-has_enough-clause-paid : goal.returns-then-has_enough-clause-paid
returns-then-has_enough-clause-paid g c = λ m e.
    paid_end (layout c.args.geo.now) (m Image) c.args.core.now c.args.from c.args.tasks.now.items c.loop-i.tasks.items c.pop_front.new.self.items (trail_of c.args.seen.now) (trail_of c.loop-i.seen) c.in-Some.task c.end_at.result c.loop-i.i c.args.steps.now.reads c.loop-i.steps.reads c.in-Some.ensures.items c.end_at.ensures (c.loop-i.invariant.comes m e) c.loop-i.invariant.few
