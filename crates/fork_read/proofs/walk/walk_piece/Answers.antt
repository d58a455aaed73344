use Rattle.std.proofs.Common.{◌∷◌, ◌∙◌, sym, subst}
use Rattle.std.proofs.lemmas.Result.{IfOk-weaker}
use Rattle.blk_device.specs.ReadingLaws.{read_on}
use Rattle.blk_device.specs.declared.device.Region.TheVariants.{Image}
use Rattle.geom.specs.Places.{layout}
use Rattle.fork_read.specs.Answers.{IsLow, IsStopped}
use Rattle.fork_read.specs.Counted.{IsPaid}
use Rattle.fork_read.specs.Stuck.{HasGone}
use Rattle.fork_read.specs.Walk.{trail_of, walk_tasks}
use Rattle.fork_read.proofs.SpendLemmas.{paid_join, spent_join}
use Rattle.fork_read.proofs.EndLemmas.{come_behind, come_there, long_there, stopped_before}
use Rattle.fork_read.proofs.walk.walk_piece.Goals as goal

pub returns-in-None-clause-reached : goal.returns-in-None-clause-reached
returns-in-None-clause-reached g c = λ m e.
    come_there (layout c.args.geo.now) (m Image) c.args.core.now c.args.from c.args.tasks.now.items c.walk_on.new.tasks.items (trail_of c.args.seen.now) (trail_of c.walk_on.new.seen) c.in_ok-stop.stop (sym c.stuck_at.ensures ∙ c.in-None.is) (c.in_ok-stop.ensures.reached m e)

pub walk_behind-requires-clause-first : goal.walk_behind-requires-clause-first
walk_behind-requires-clause-first g c =
    let long = long_there c.in_ok-stop.stop c.in-Some.task (sym c.stuck_at.ensures ∙ c.in-Some.is) in
    (subst (IsLow c.walk_on.new.tasks.items) long c.in_ok-stop.ensures.low).0

pub walk_behind-requires-clause-low : goal.walk_behind-requires-clause-low
walk_behind-requires-clause-low g c =
    let long = long_there c.in_ok-stop.stop c.in-Some.task (sym c.stuck_at.ensures ∙ c.in-Some.is) in
    (subst (IsLow c.walk_on.new.tasks.items) long c.in_ok-stop.ensures.low).1

pub returns-in-Some-clause-stopped : goal.returns-in-Some-clause-stopped
returns-in-Some-clause-stopped g c =
    let long = long_there c.in_ok-stop.stop c.in-Some.task (sym c.stuck_at.ensures ∙ c.in-Some.is) in
    IfOk-weaker c.walk_behind.result _ _ (λ stop h m e.
    let before = walk_tasks (layout c.args.geo.now) (m Image) c.args.core.now c.args.from c.args.tasks.now.items (trail_of c.args.seen.now) in
    let whole = subst (λ s. IsStopped before (walk_tasks (layout c.args.geo.now) (m Image) c.args.core.now c.args.from) c.args.from s c.walk_on.new.tasks.items (trail_of c.walk_on.new.seen)) long (c.in_ok-stop.ensures.stopped m e) in
    stopped_before (layout c.args.geo.now) (m Image) c.args.core.now c.args.from before (walk_tasks (layout c.args.geo.now) (m Image) c.args.core.now c.args.from (c.in-Some.task ∷ c.walk_on.new.tasks.items) (trail_of c.walk_on.new.seen)) stop c.walk_behind.new.tasks.items (trail_of c.walk_behind.new.seen) whole (h m (c.walk_on.ensures.reading.same ∙ e))) c.walk_behind.ensures.stopped

pub returns-in-Some-clause-reached : goal.returns-in-Some-clause-reached
returns-in-Some-clause-reached g c =
    let long = long_there c.in_ok-stop.stop c.in-Some.task (sym c.stuck_at.ensures ∙ c.in-Some.is) in
    IfOk-weaker c.walk_behind.result _ _ (λ stop h m e.
    let stuck = subst (λ s. HasGone (layout c.args.geo.now) (m Image) c.args.core.now c.args.from c.args.tasks.now.items (trail_of c.args.seen.now) s c.walk_on.new.tasks.items (trail_of c.walk_on.new.seen)) long (c.in_ok-stop.ensures.reached m e) in
    come_behind (layout c.args.geo.now) (m Image) c.args.core.now c.args.from c.args.tasks.now.items c.walk_on.new.tasks.items c.walk_behind.new.tasks.items (trail_of c.args.seen.now) (trail_of c.walk_on.new.seen) (trail_of c.walk_behind.new.seen) c.in-Some.task stop stuck (h m (c.walk_on.ensures.reading.same ∙ e))) c.walk_behind.ensures.reached

pub returns-in-Some-clause-reading : goal.returns-in-Some-clause-reading
returns-in-Some-clause-reading g c =
    read_on g.D.Device g.met.D.Device.only_now g.met.D.Device.counts_now c.args.dev.now c.walk_on.new.dev c.walk_behind.new.dev c.args.steps.now c.walk_on.new.steps c.walk_behind.new.steps c.walk_on.ensures.reading c.walk_behind.ensures.reading

pub returns-in-Some-clause-spent : goal.returns-in-Some-clause-spent
returns-in-Some-clause-spent g c = λ m e.
    let long = long_there c.in_ok-stop.stop c.in-Some.task (sym c.stuck_at.ensures ∙ c.in-Some.is) in
    let paid = subst (λ s. IsPaid (layout c.args.geo.now) (m Image) c.args.core.now c.args.from c.args.tasks.now.items (trail_of c.args.seen.now) c.args.steps.now.reads c.walk_on.new.steps.reads s c.walk_on.new.tasks.items (trail_of c.walk_on.new.seen)) long (c.in_ok-stop.ensures.paid m e) in
    spent_join (layout c.args.geo.now) (m Image) c.args.core.now c.args.from c.args.tasks.now.items (c.in-Some.task ∷ c.walk_on.new.tasks.items) (trail_of c.args.seen.now) (trail_of c.walk_on.new.seen) c.args.steps.now.reads c.walk_on.new.steps.reads c.walk_behind.new.steps.reads paid (c.walk_behind.ensures.spent m (c.walk_on.ensures.reading.same ∙ e))

pub returns-in-Some-clause-paid : goal.returns-in-Some-clause-paid
returns-in-Some-clause-paid g c =
    let long = long_there c.in_ok-stop.stop c.in-Some.task (sym c.stuck_at.ensures ∙ c.in-Some.is) in
    IfOk-weaker c.walk_behind.result _ _ (λ stop h m e.
    let paid = subst (λ s. IsPaid (layout c.args.geo.now) (m Image) c.args.core.now c.args.from c.args.tasks.now.items (trail_of c.args.seen.now) c.args.steps.now.reads c.walk_on.new.steps.reads s c.walk_on.new.tasks.items (trail_of c.walk_on.new.seen)) long (c.in_ok-stop.ensures.paid m e) in
    paid_join (layout c.args.geo.now) (m Image) c.args.core.now c.args.from c.args.tasks.now.items (c.in-Some.task ∷ c.walk_on.new.tasks.items) c.walk_behind.new.tasks.items (trail_of c.args.seen.now) (trail_of c.walk_on.new.seen) (trail_of c.walk_behind.new.seen) c.args.steps.now.reads c.walk_on.new.steps.reads c.walk_behind.new.steps.reads stop paid (h m (c.walk_on.ensures.reading.same ∙ e))) c.walk_behind.ensures.paid
