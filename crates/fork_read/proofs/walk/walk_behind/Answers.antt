use Rattle.std.proofs.Common.{◌≡◌, ◌+◌, ◌∷◌, ◌∙◌, length, refl, subst, arith}
use Rattle.blk_device.specs.ReadingLaws.{nothing_read, read_on}
use Rattle.blk_device.specs.declared.device.Region.TheVariants.{Image}
use Rattle.geom.specs.Places.{layout}
use Rattle.fork_read.specs.Answers.{AllLow, HasRead}
use Rattle.fork_read.specs.Walk.{Leaves, trail_of, walk_tasks}
use Rattle.fork_read.proofs.SpendLemmas.{paid_all}
use Rattle.fork_read.proofs.EndLemmas.{broken_at, none_left, stepped}
use Rattle.fork_read.proofs.WalkLemmas.{leaves_first, leaves_next, none_popped, read_one}
use Rattle.fork_read.proofs.walk.walk_behind.Goals as goal

pub returns-in_err-read-clause-reading : goal.returns-in_err-read-clause-reading
returns-in_err-read-clause-reading g c =
    read_on g.D.Device g.met.D.Device.only_now g.met.D.Device.counts_now c.args.dev.now c.loop-i.dev c.read_task.new.dev c.args.steps.now c.loop-i.steps c.read_task.new.steps c.loop-i.invariant.reading c.read_task.ensures.reading

pub returns-then-not-read-clause-reading : goal.returns-then-not-read-clause-reading
returns-then-not-read-clause-reading g c =
    read_on g.D.Device g.met.D.Device.only_now g.met.D.Device.counts_now c.args.dev.now c.loop-i.dev c.read_task.new.dev c.args.steps.now c.loop-i.steps c.read_task.new.steps c.loop-i.invariant.reading c.read_task.ensures.reading

pub returns-in-None-clause-reading : goal.returns-in-None-clause-reading
returns-in-None-clause-reading g c =
    read_on g.D.Device g.met.D.Device.only_now g.met.D.Device.counts_now c.args.dev.now c.loop-i.dev c.read_task.new.dev c.args.steps.now c.loop-i.steps c.read_task.new.steps c.loop-i.invariant.reading c.read_task.ensures.reading

pub loop-i-init : goal.loop-i-init
loop-i-init g c = record {
  goes_on = λ m e. refl;
  comes = λ m e. leaves_first (layout c.args.geo.now) (m Image) c.args.core.now c.args.from (c.args.first ∷ c.args.tasks.now.items) (trail_of c.args.seen.now);
  here = c.requires.first;
  low = c.requires.low;
  reading = nothing_read g.D.Device g.met.D.Device.only_now g.met.D.Device.counts_now c.args.dev.now c.args.steps.now;
  calm = refl;
  few = omega arith;
}

pub loop-i-preserved : goal.loop-i-preserved
loop-i-preserved g c =
    let items = c.in-Some.ensures.items in
    record {
      goes_on = λ m e.
          let before = walk_tasks (layout c.args.geo.now) (m Image) c.args.core.now c.args.from (c.args.first ∷ c.args.tasks.now.items) (trail_of c.args.seen.now) in
          let after = walk_tasks (layout c.args.geo.now) (m Image) c.args.core.now c.args.from c.read_task.new.tasks.items (trail_of c.read_task.new.seen) in
          let step = read_one (layout c.args.geo.now) (m Image) c.args.core.now c.args.from c.loop-i.task (c.loop-i.task ∷ c.loop-i.tasks.items) c.loop-i.tasks.items (trail_of c.loop-i.seen) c.in_ok-read.read before after (trail_of c.read_task.new.seen) refl (c.loop-i.invariant.goes_on m e) (c.in_ok-read.ensures.read m (c.loop-i.invariant.reading.same ∙ e)) in
          subst (λ xs. before ≡ walk_tasks (layout c.args.geo.now) (m Image) c.args.core.now c.args.from xs (trail_of c.read_task.new.seen)) items (subst (λ b. HasRead before b after (trail_of c.read_task.new.seen)) c.if-not-read.false step);
      comes = λ m e.
          let step = stepped (layout c.args.geo.now) (m Image) c.args.core.now c.args.from c.loop-i.task c.loop-i.tasks.items c.read_task.new.tasks.items (trail_of c.loop-i.seen) (trail_of c.read_task.new.seen) c.in_ok-read.read c.if-not-read.false (c.in_ok-read.ensures.step m (c.loop-i.invariant.reading.same ∙ e)) in
          subst (λ xs. Leaves (layout c.args.geo.now) (m Image) c.args.core.now c.args.from (c.args.first ∷ c.args.tasks.now.items) (trail_of c.args.seen.now) (c.loop-i.i + 1) xs (trail_of c.read_task.new.seen)) items (leaves_next (layout c.args.geo.now) (m Image) c.args.core.now c.args.from (c.args.first ∷ c.args.tasks.now.items) (c.loop-i.task ∷ c.loop-i.tasks.items) c.loop-i.tasks.items c.read_task.new.tasks.items (trail_of c.args.seen.now) (trail_of c.loop-i.seen) (trail_of c.read_task.new.seen) c.loop-i.i c.loop-i.task refl (c.loop-i.invariant.comes m e) step);
      here = (subst AllLow items c.in_ok-read.ensures.low).0;
      low = (subst AllLow items c.in_ok-read.ensures.low).1;
      reading = read_on g.D.Device g.met.D.Device.only_now g.met.D.Device.counts_now c.args.dev.now c.loop-i.dev c.read_task.new.dev c.args.steps.now c.loop-i.steps c.read_task.new.steps c.loop-i.invariant.reading c.read_task.ensures.reading;
      calm = c.in_ok-read.ensures.cause ∙ c.loop-i.invariant.calm;
      few = omega (arith, c.in_ok-read.ensures.few, c.loop-i.invariant.few);
    }

pub returns-in-None-clause-stopped : goal.returns-in-None-clause-stopped
returns-in-None-clause-stopped g c = λ m e.
    let none : length c.read_task.new.tasks.items ≡ 0 = omega (arith, c.in-None.ensures.cases.0) in
    let before = walk_tasks (layout c.args.geo.now) (m Image) c.args.core.now c.args.from (c.args.first ∷ c.args.tasks.now.items) (trail_of c.args.seen.now) in
    let after = walk_tasks (layout c.args.geo.now) (m Image) c.args.core.now c.args.from c.read_task.new.tasks.items (trail_of c.read_task.new.seen) in
    let step = read_one (layout c.args.geo.now) (m Image) c.args.core.now c.args.from c.loop-i.task (c.loop-i.task ∷ c.loop-i.tasks.items) c.loop-i.tasks.items (trail_of c.loop-i.seen) c.in_ok-read.read before after (trail_of c.read_task.new.seen) refl (c.loop-i.invariant.goes_on m e) (c.in_ok-read.ensures.read m (c.loop-i.invariant.reading.same ∙ e)) in
    subst (λ b. HasRead before b after (trail_of c.read_task.new.seen)) c.if-not-read.false step ∙ none_popped (layout c.args.geo.now) (m Image) c.args.core.now c.args.from c.read_task.new.tasks.items (trail_of c.read_task.new.seen) none

pub returns-in-None-clause-reached : goal.returns-in-None-clause-reached
returns-in-None-clause-reached g c = λ m e.
    let none : length c.read_task.new.tasks.items ≡ 0 = omega (arith, c.in-None.ensures.cases.0) in
    let step = stepped (layout c.args.geo.now) (m Image) c.args.core.now c.args.from c.loop-i.task c.loop-i.tasks.items c.read_task.new.tasks.items (trail_of c.loop-i.seen) (trail_of c.read_task.new.seen) c.in_ok-read.read c.if-not-read.false (c.in_ok-read.ensures.step m (c.loop-i.invariant.reading.same ∙ e)) in
    none_left (layout c.args.geo.now) (m Image) c.args.core.now c.args.from (c.args.first ∷ c.args.tasks.now.items) c.read_task.new.tasks.items (trail_of c.args.seen.now) (trail_of c.read_task.new.seen) (c.loop-i.i + 1) none (leaves_next (layout c.args.geo.now) (m Image) c.args.core.now c.args.from (c.args.first ∷ c.args.tasks.now.items) (c.loop-i.task ∷ c.loop-i.tasks.items) c.loop-i.tasks.items c.read_task.new.tasks.items (trail_of c.args.seen.now) (trail_of c.loop-i.seen) (trail_of c.read_task.new.seen) c.loop-i.i c.loop-i.task refl (c.loop-i.invariant.comes m e) step)

pub returns-then-not-read-clause-reached : goal.returns-then-not-read-clause-reached
returns-then-not-read-clause-reached g c = λ m e.
    broken_at (layout c.args.geo.now) (m Image) c.args.core.now c.args.from (c.args.first ∷ c.args.tasks.now.items) (c.loop-i.task ∷ c.loop-i.tasks.items) c.loop-i.tasks.items c.read_task.new.tasks.items (trail_of c.args.seen.now) (trail_of c.loop-i.seen) (trail_of c.read_task.new.seen) c.loop-i.i c.loop-i.task c.in_ok-read.read refl (c.loop-i.invariant.comes m e) c.if-not-read.true (c.in_ok-read.ensures.step m (c.loop-i.invariant.reading.same ∙ e))

pub returns-in_err-read-clause-spent : goal.returns-in_err-read-clause-spent
returns-in_err-read-clause-spent g c = λ m e.
    record { count = c.loop-i.i; left = c.loop-i.task ∷ c.loop-i.tasks.items; after = trail_of c.loop-i.seen; leaves = c.loop-i.invariant.comes m e; few = omega (arith, c.loop-i.invariant.few, c.read_task.ensures.few) }

pub returns-then-not-read-clause-spent : goal.returns-then-not-read-clause-spent
returns-then-not-read-clause-spent g c = λ m e.
    record { count = c.loop-i.i; left = c.loop-i.task ∷ c.loop-i.tasks.items; after = trail_of c.loop-i.seen; leaves = c.loop-i.invariant.comes m e; few = omega (arith, c.loop-i.invariant.few, c.read_task.ensures.few) }

pub returns-in-None-clause-spent : goal.returns-in-None-clause-spent
returns-in-None-clause-spent g c = λ m e.
    let step = stepped (layout c.args.geo.now) (m Image) c.args.core.now c.args.from c.loop-i.task c.loop-i.tasks.items c.read_task.new.tasks.items (trail_of c.loop-i.seen) (trail_of c.read_task.new.seen) c.in_ok-read.read c.if-not-read.false (c.in_ok-read.ensures.step m (c.loop-i.invariant.reading.same ∙ e)) in
    record { count = c.loop-i.i + 1; left = c.read_task.new.tasks.items; after = trail_of c.read_task.new.seen; leaves = (leaves_next (layout c.args.geo.now) (m Image) c.args.core.now c.args.from (c.args.first ∷ c.args.tasks.now.items) (c.loop-i.task ∷ c.loop-i.tasks.items) c.loop-i.tasks.items c.read_task.new.tasks.items (trail_of c.args.seen.now) (trail_of c.loop-i.seen) (trail_of c.read_task.new.seen) c.loop-i.i c.loop-i.task refl (c.loop-i.invariant.comes m e) step); few = omega (arith, c.loop-i.invariant.few, c.in_ok-read.ensures.few) }

pub returns-in-None-clause-paid : goal.returns-in-None-clause-paid
returns-in-None-clause-paid g c = λ m e.
    let none : length c.read_task.new.tasks.items ≡ 0 = omega (arith, c.in-None.ensures.cases.0) in
    let step = stepped (layout c.args.geo.now) (m Image) c.args.core.now c.args.from c.loop-i.task c.loop-i.tasks.items c.read_task.new.tasks.items (trail_of c.loop-i.seen) (trail_of c.read_task.new.seen) c.in_ok-read.read c.if-not-read.false (c.in_ok-read.ensures.step m (c.loop-i.invariant.reading.same ∙ e)) in
    paid_all (layout c.args.geo.now) (m Image) c.args.core.now c.args.from (c.args.first ∷ c.args.tasks.now.items) c.read_task.new.tasks.items (trail_of c.args.seen.now) (trail_of c.read_task.new.seen) (c.loop-i.i + 1) c.args.steps.now.reads c.read_task.new.steps.reads none (leaves_next (layout c.args.geo.now) (m Image) c.args.core.now c.args.from (c.args.first ∷ c.args.tasks.now.items) (c.loop-i.task ∷ c.loop-i.tasks.items) c.loop-i.tasks.items c.read_task.new.tasks.items (trail_of c.args.seen.now) (trail_of c.loop-i.seen) (trail_of c.read_task.new.seen) c.loop-i.i c.loop-i.task refl (c.loop-i.invariant.comes m e) step) (omega (arith, c.loop-i.invariant.few, c.in_ok-read.ensures.few))

pub returns-clause-spent : goal.returns-clause-spent
returns-clause-spent g c = λ m e.
    record { count = c.loop-i.i; left = c.loop-i.task ∷ c.loop-i.tasks.items; after = trail_of c.loop-i.seen; leaves = c.loop-i.invariant.comes m e; few = omega (arith, c.loop-i.invariant.few) }

pub returns-clause-paid : goal.returns-clause-paid
returns-clause-paid g c = λ m e. record { count = c.loop-i.i; leaves = c.loop-i.invariant.comes m e; few = c.loop-i.invariant.few }
