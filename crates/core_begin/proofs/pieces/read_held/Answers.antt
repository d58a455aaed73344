use Rattle.core_begin.proofs.pieces.read_held.Goals as goal
use Rattle.core_begin.proofs.MayLemmas.{rest_put}
use Rattle.core_parts.specs.declared.units.Work.TheVariants as works

pub returns-in-None-clause-rest : goal.returns-in-None-clause-rest
returns-in-None-clause-rest g c = rest_put c.args.unit.now c.put_scan.new.unit (works.Scanning c.args.scan) c.put_scan.ensures.put
