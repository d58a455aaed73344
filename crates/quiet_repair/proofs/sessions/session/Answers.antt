use Rattle.std.proofs.Common.{subst, sym}
use Rattle.quiet_repair.specs.Courses.{OnCourse}
use Rattle.quiet_repair.proofs.StepLemmas.{begins_on}
use Rattle.scrub_order.specs.declared.order.Order.{Order}
use Rattle.quiet_repair.proofs.sessions.session.Goals as goal

-- it begins with a new order, and an empty journal
pub session_counted-requires-clause-course : goal.session_counted-requires-clause-course
session_counted-requires-clause-course g c = subst (λ (o : Order). OnCourse o.plan o.turns c.args.parts.now o) (sym c.new-order.ensures) (begins_on c.args.plan c.args.turns c.course_follows.ensures.begins c.args.parts.now c.requires.fresh c.requires.empty)
