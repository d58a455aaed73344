use Rattle.core_begin.proofs.AfterLemmas.{err_on, halted_move, moved_left}
use Rattle.core_begin.proofs.BeginLemmas.{answers_on}
use Rattle.core_begin.proofs.moves.move_on.Goals as goal
use Rattle.core_parts.proofs.common.EntryLemmas.{halt_more, more_after}
use Rattle.core_begin.proofs.MayLemmas.{halt_move, rest_put}
use Rattle.core_parts.specs.declared.units.Work.TheVariants as works

pub returns-in-Ok-clause-answers : goal.returns-in-Ok-clause-answers
returns-in-Ok-clause-answers g c =
    answers_on g.D.Device c.args.desk.now c.next_inode.new.desk c.go_on.new.desk c.go_on.result c.in-Ok.ensures.answers.steady c.go_on.ensures.answers

pub returns-in-Ok-clause-entries : goal.returns-in-Ok-clause-entries
returns-in-Ok-clause-entries g c = more_after c.args.desk.now c.next_inode.new.desk c.go_on.new.desk _ c.in-Ok.ensures.items c.go_on.ensures.entries

pub returns-in-Ok-clause-kept : goal.returns-in-Ok-clause-kept
returns-in-Ok-clause-kept g c =
    err_on c.go_on.result _
    (λ fault left. moved_left c.args.unit.now c.args.scan c.next_inode.new.scan c.go_on.new.unit c.in-Ok.reach fault c.in-Ok.ensures.stays c.in-Ok.ensures.reaches left)
    c.go_on.ensures.kept

pub returns-in-Err-clause-entries : goal.returns-in-Err-clause-entries
returns-in-Err-clause-entries g c =
    halt_more c.args.desk.now c.next_inode.new.desk c.args.unit.now.group c.args.unit.now.unit c.in-Err.fault c.in-Err.ensures.items c.in-Err.ensures.halts

pub returns-in-Err-clause-kept : goal.returns-in-Err-clause-kept
returns-in-Err-clause-kept g c =
    halted_move c.args.unit.now c.args.scan c.next_inode.new.scan c.put_scan.new.unit c.in-Err.fault c.in-Err.ensures.halts c.in-Err.ensures.reaches c.put_scan.ensures.put

pub returns-in-Err-clause-rest : goal.returns-in-Err-clause-rest
returns-in-Err-clause-rest g c = rest_put c.args.unit.now c.put_scan.new.unit (works.Scanning c.next_inode.new.scan) c.put_scan.ensures.put

pub returns-in-Err-clause-may : goal.returns-in-Err-clause-may
returns-in-Err-clause-may g c = halt_move c.args.unit.now.turns c.in-Err.fault c.in-Err.ensures.halts
