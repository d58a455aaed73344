use Rattle.std.proofs.Common.{ap}
use Rattle.std.specs.Global.{Vec}
use Rattle.core_parts.specs.declared.units.Work.TheVariants as works
use Rattle.rmap_recs.specs.declared.records.RmapRec.{RmapRec}
use Rattle.core_parts.proofs.common.EntryLemmas.{halt_more, more_after}
use Rattle.core_check.proofs.EntryLemmas.{gathered_for, halt_gathers, halt_gives}
use Rattle.core_check.proofs.gather.gather_by.Goals as goal

pub returns-in-Ok-clause-entries : goal.returns-in-Ok-clause-entries
returns-in-Ok-clause-entries g c = more_after c.args.desk.now c.gather_more.new.desk c.follow.new.desk _ c.in-Ok.ensures.items c.follow.ensures.entries

pub returns-in-Ok-clause-stands : goal.returns-in-Ok-clause-stands
returns-in-Ok-clause-stands g c =
    gathered_for c.gather_more.new.gathered.owners.items c.args.gathered.owners.items c.follow.result.answer c.follow.result.work (ap (λ (v : Vec RmapRec). v.items) c.in-Ok.ensures.owners) c.follow.ensures.stands

pub returns-in-Err-clause-entries : goal.returns-in-Err-clause-entries
returns-in-Err-clause-entries g c =
    halt_more c.args.desk.now c.gather_more.new.desk c.args.which.group c.args.which.unit c.in-Err.fault c.in-Err.ensures.items c.in-Err.ensures.halts

pub returns-in-Err-clause-stands : goal.returns-in-Err-clause-stands
returns-in-Err-clause-stands g c =
    halt_gathers c.args.gathered.owners.items c.in-Err.fault (works.Gathering c.gather_more.new.gathered) c.in-Err.ensures.halts (ap (λ (v : Vec RmapRec). v.items) c.in-Err.ensures.owners)

pub returns-in-Err-clause-gives : goal.returns-in-Err-clause-gives
returns-in-Err-clause-gives g c = halt_gives c.in-Err.fault c.in-Err.ensures.halts
