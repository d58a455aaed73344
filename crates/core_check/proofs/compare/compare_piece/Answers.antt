use Rattle.std.proofs.Common.{◌∙◌, ap}
use Rattle.core_parts.specs.declared.units.UnitState.{UnitState}
use Rattle.core_check.proofs.EntryLemmas.{err_then, piece_told, unit_back, unit_rest}
use Rattle.core_check.proofs.compare.compare_piece.Goals as goal

pub returns-clause-tells : goal.returns-clause-tells
returns-clause-tells g c =
    piece_told _ c.args.kept.now.heads c.take_work-work.result c.args.unit.now.work c.args.desk.now c.compare_work-left.new.desk c.compare_work-left.result c.put_work.new.unit.work c.take_work-work.ensures.work
    (ap (λ (x : UnitState). x.work) c.put_work.ensures) c.compare_work-left.ensures.tells

pub returns-clause-items : goal.returns-clause-items
returns-clause-items g c = err_then c.compare_work-left.result.answer (λ s. s.items) c.compare_work-left.ensures.stands

pub returns-clause-stands : goal.returns-clause-stands
returns-clause-stands g c =
    err_then c.compare_work-left.result.answer
    (λ s. unit_back c.args.unit.now c.take_work-work.new.unit c.put_work.new.unit c.compare_work-left.result.work c.take_work-work.ensures.taken c.put_work.ensures (s.work ∙ c.take_work-work.ensures.work))
    c.compare_work-left.ensures.stands

pub returns-clause-rest : goal.returns-clause-rest
returns-clause-rest g c = unit_rest c.args.unit.now c.take_work-work.new.unit c.put_work.new.unit c.compare_work-left.result.work c.take_work-work.ensures.taken c.put_work.ensures
