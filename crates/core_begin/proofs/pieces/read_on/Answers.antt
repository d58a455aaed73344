use Rattle.core_begin.proofs.AfterLemmas.{err_both, given_up_piece, halted_piece}
use Rattle.core_begin.proofs.BeginLemmas.{answers_on}
use Rattle.core_begin.proofs.pieces.read_on.Goals as goal
use Rattle.core_parts.proofs.common.EntryLemmas.{halt_more, more_after}
use Rattle.core_begin.proofs.MayLemmas.{halt_may, rest_put}
use Rattle.core_parts.specs.declared.units.Work.TheVariants as works

pub returns-in-Ok-clause-answers : goal.returns-in-Ok-clause-answers
returns-in-Ok-clause-answers g c =
    answers_on g.D.Device c.args.desk.now c.next_piece.new.desk c.take_piece.new.desk c.take_piece.result c.in-Ok.ensures.answers.steady c.take_piece.ensures.answers

pub returns-in-Ok-clause-entries : goal.returns-in-Ok-clause-entries
returns-in-Ok-clause-entries g c = more_after c.args.desk.now c.next_piece.new.desk c.take_piece.new.desk _ c.in-Ok.ensures.items c.take_piece.ensures.entries

pub returns-in-Ok-clause-kept : goal.returns-in-Ok-clause-kept
returns-in-Ok-clause-kept g c =
    err_both c.take_piece.result _
    (λ fault left gives. given_up_piece c.args.unit.now c.args.scan c.next_piece.new.scan c.take_piece.new.unit fault gives c.in-Ok.ensures.stays left)
    c.take_piece.ensures.kept c.take_piece.ensures.gives

pub returns-in-Err-clause-entries : goal.returns-in-Err-clause-entries
returns-in-Err-clause-entries g c =
    halt_more c.args.desk.now c.next_piece.new.desk c.args.unit.now.group c.args.unit.now.unit c.in-Err.fault c.in-Err.ensures.items c.in-Err.ensures.halts

pub returns-in-Err-clause-kept : goal.returns-in-Err-clause-kept
returns-in-Err-clause-kept g c =
    halted_piece c.args.unit.now c.args.scan c.next_piece.new.scan c.put_scan.new.unit c.in-Err.fault c.in-Err.ensures.halts c.in-Err.ensures.stays c.put_scan.ensures.put

pub returns-in-Err-clause-rest : goal.returns-in-Err-clause-rest
returns-in-Err-clause-rest g c = rest_put c.args.unit.now c.put_scan.new.unit (works.Scanning c.next_piece.new.scan) c.put_scan.ensures.put

pub returns-in-Err-clause-may : goal.returns-in-Err-clause-may
returns-in-Err-clause-may g c = halt_may c.args.unit.now.turns c.in-Err.fault c.in-Err.ensures.halts
