use Rattle.core_parts.proofs.common.EntryLemmas.{room_more}
use Rattle.core_check.proofs.EntryLemmas.{room_gives, room_judged}
use Rattle.core_check.proofs.gather.give_up_whole.Goals as goal

pub returns-in-Err-clause-entries : goal.returns-in-Err-clause-entries
returns-in-Err-clause-entries g c =
    room_more c.args.desk.now c.note_evidence.new.desk c.args.which.group c.args.which.unit c.in-Err.fault c.in-Err.ensures.unsaid c.in-Err.ensures.wants

pub returns-in-Err-clause-stands : goal.returns-in-Err-clause-stands
returns-in-Err-clause-stands g c = λ owners. room_judged owners c.in-Err.fault c.in-Err.ensures.wants

pub returns-in-Err-clause-gives : goal.returns-in-Err-clause-gives
returns-in-Err-clause-gives g c = room_gives c.in-Err.fault c.in-Err.ensures.wants
