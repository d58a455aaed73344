use Rattle.core_begin.proofs.moves.end_scan.Goals as goal
use Rattle.core_begin.proofs.MayLemmas.{rest_put}
use Rattle.core_parts.specs.declared.units.Work.TheVariants as works

pub returns-in-Ok-clause-rest : goal.returns-in-Ok-clause-rest
returns-in-Ok-clause-rest c = rest_put c.args.unit.now c.put_work.new.unit (works.Open c.in-Ok.owners) c.put_work.ensures.put

pub returns-in-Err-clause-rest : goal.returns-in-Err-clause-rest
returns-in-Err-clause-rest c = rest_put c.args.unit.now c.put_scan.new.unit (works.Scanning c.args.scan) c.put_scan.ensures.put
