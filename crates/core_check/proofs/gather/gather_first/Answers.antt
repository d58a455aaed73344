use Rattle.std.proofs.Common.{ap}
use Rattle.std.specs.Global.{Vec}
use Rattle.geom.specs.Places.{layout}
use Rattle.rmap_recs.specs.declared.records.RmapRec.{RmapRec}
use Rattle.core_check.proofs.EntryLemmas.{gathered_for}
use Rattle.core_check.proofs.gather.gather_first.Goals as goal

pub gather_from-requires-clause-orderly : goal.gather_from-requires-clause-orderly
gather_from-requires-clause-orderly g c = c.in-Ok.ensures.orderly (layout c.args.desk.now.store.geo) c.args.which.group

pub returns-in-Ok-clause-stands : goal.returns-in-Ok-clause-stands
returns-in-Ok-clause-stands g c =
    gathered_for c.in-Ok.gathered.owners.items c.args.owners.items c.gather_from.result.answer c.gather_from.result.work (ap (λ (v : Vec RmapRec). v.items) c.in-Ok.ensures.owners) c.gather_from.ensures.stands
