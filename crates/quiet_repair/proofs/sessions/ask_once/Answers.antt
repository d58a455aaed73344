use Rattle.std.proofs.Common.{ap, subst, sym}
use Rattle.core_parts.proofs.common.AskLemmas.{steady_on}
use Rattle.fsck_core.specs.Asks.{MayAsk}
use Rattle.quiet_repair.proofs.LookLemmas.{course_looked, goes_looked, stands_looked}
use Rattle.quiet_repair.proofs.sessions.ask_once.Goals as goal

pub answer_once-requires-clause-asked : goal.answer_once-requires-clause-asked
answer_once-requires-clause-asked g c = subst (λ geo. MayAsk geo.agcount c.args.ask) (sym c.look_first.ensures.left.steady.geometry) c.requires.asked

pub answer_once-requires-clause-stands : goal.answer_once-requires-clause-stands
answer_once-requires-clause-stands g c = stands_looked g.D.Device c.args.parts.now c.look_first.new.parts c.args.order.now c.look_first.ensures.left c.requires.stands

pub answer_once-requires-clause-course : goal.answer_once-requires-clause-course
answer_once-requires-clause-course g c = course_looked g.D.Device c.args.parts.now c.look_first.new.parts c.args.order.now.plan c.args.order.now.turns c.args.order.now c.look_first.ensures.left c.requires.course

pub returns-clause-on : goal.returns-clause-on
returns-clause-on g c = goes_looked g.D.Device c.args.parts.now c.look_first.new.parts c.answer_once.new.parts c.answer_once.new.order c.look_first.ensures.left c.answer_once.ensures.on
