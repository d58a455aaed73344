use Rattle.fsck_core.proofs.ToldLemmas.{tells_well}
use Rattle.quiet_repair.proofs.SessionLemmas.{asked_on}
use Rattle.quiet_repair.proofs.StepLemmas.{goes_by}
use Rattle.quiet_repair.proofs.sessions.answer_once.Goals as goal

pub returns : goal.returns
returns g c = record {
  on =
      asked_on g.D.Device c.args.parts.now c.answer_of-told.new.parts c.take_answer.result c.args.order.now c.take_answer.new.order c.answer_of-told.result.0 c.answer_of-told.result.1
      c.requires.stands c.answer_of-told.ensures.acted.safe c.answer_of-told.ensures.acted.steady c.answer_of-told.ensures.acted.shut (tells_well c.answer_of-told.new.parts.desk c.answer_of-told.result.0 c.answer_of-told.ensures.acted.told) c.take_answer.ensures.took;
  goes =
      goes_by g.D.Device c.course_follows.ensures.goes_on c.course_follows.ensures.stops c.course_follows.ensures.fresh c.course_follows.ensures.stays c.args.order.now.plan c.args.order.now.turns c.take_answer.result c.args.parts.now c.answer_of-told.new.parts c.args.order.now c.take_answer.new.order c.args.ask c.answer_of-told.result.0 c.answer_of-told.result.1
      c.requires.safe c.requires.stands.inside.group c.answer_of-told.ensures.acted.steady c.requires.asks c.requires.course c.answer_of-told.ensures.says c.answer_of-told.ensures.phase c.take_answer.ensures.may c.take_answer.ensures.took;
}
