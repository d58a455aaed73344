use Rattle.std.proofs.Common.{sym}
use Rattle.core_begin.proofs.AfterLemmas.{room_gives, room_kept}
use Rattle.core_begin.proofs.giving.give_up.Goals as goal
use Rattle.core_parts.proofs.common.EntryLemmas.{room_more}
use Rattle.core_begin.proofs.MayLemmas.{rest_put, room_may}
use Rattle.core_parts.specs.declared.units.Work.TheVariants as works

pub returns-in-Err-clause-entries : goal.returns-in-Err-clause-entries
returns-in-Err-clause-entries g c =
    room_more c.args.desk.now c.say_verdict.new.desk c.args.unit.now.group c.args.unit.now.unit c.in-Err.fault c.in-Err.ensures.unsaid c.in-Err.ensures.wants

pub returns-in-Err-clause-kept : goal.returns-in-Err-clause-kept
returns-in-Err-clause-kept g c = sym (room_kept c.args.unit.now c.in-Err.fault c.in-Err.ensures.wants)

pub returns-in-Err-clause-gives : goal.returns-in-Err-clause-gives
returns-in-Err-clause-gives g c = room_gives c.in-Err.fault c.in-Err.ensures.wants

pub returns-in-Ok-clause-rest : goal.returns-in-Ok-clause-rest
returns-in-Ok-clause-rest g c = rest_put c.args.unit.now c.put_work.new.unit works.Judged c.put_work.ensures.put

pub returns-in-Err-clause-may : goal.returns-in-Err-clause-may
returns-in-Err-clause-may g c = λ fits. room_may c.args.unit.now.turns c.in-Err.fault c.in-Err.ensures.wants
