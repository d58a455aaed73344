use Rattle.std.proofs.Common.{ap}
use Rattle.core_parts.specs.declared.units.UnitState.{UnitState}
use Rattle.core_check.proofs.EntryLemmas.{left_put, unit_rest}
use Rattle.core_check.proofs.gather.gather_piece.Goals as goal

pub returns-clause-stands : goal.returns-clause-stands
returns-clause-stands g c =
    left_put c.take_work-work.result c.args.unit.now.work c.gather_work-left.result.answer c.gather_work-left.result.work c.put_work.new.unit.work c.take_work-work.ensures.work
    (ap (λ (x : UnitState). x.work) c.put_work.ensures) c.gather_work-left.ensures.stands

pub returns-clause-rest : goal.returns-clause-rest
returns-clause-rest g c = unit_rest c.args.unit.now c.take_work-work.new.unit c.put_work.new.unit c.gather_work-left.result.work c.take_work-work.ensures.taken c.put_work.ensures
