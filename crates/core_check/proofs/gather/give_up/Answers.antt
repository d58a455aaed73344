use Rattle.std.proofs.Common.{refl}
use Rattle.core_parts.specs.declared.units.Work.TheVariants as works
use Rattle.core_parts.proofs.common.EntryLemmas.{room_more}
use Rattle.core_check.proofs.EntryLemmas.{room_gathers, room_gives}
use Rattle.core_check.proofs.gather.give_up.Goals as goal

pub returns-in-Err-clause-entries : goal.returns-in-Err-clause-entries
returns-in-Err-clause-entries g c =
    room_more c.args.desk.now c.note_evidence.new.desk c.args.which.group c.args.which.unit c.in-Err.fault c.in-Err.ensures.unsaid c.in-Err.ensures.wants

pub returns-in-Err-clause-stands : goal.returns-in-Err-clause-stands
returns-in-Err-clause-stands g c = room_gathers c.args.gathered.owners.items c.in-Err.fault (works.Gathering c.args.gathered) c.in-Err.ensures.wants refl

pub returns-in-Err-clause-gives : goal.returns-in-Err-clause-gives
returns-in-Err-clause-gives g c = room_gives c.in-Err.fault c.in-Err.ensures.wants
