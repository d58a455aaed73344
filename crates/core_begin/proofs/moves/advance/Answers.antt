use Rattle.std.proofs.Common.{subst}
use Rattle.core_begin.specs.After.{IsLeftByMove, MayMove}
use Rattle.core_parts.specs.declared.units.UnitState.{UnitState}
use Rattle.core_parts.specs.declared.units.Work.TheVariants as works
use Rattle.core_begin.proofs.AfterLemmas.{entries_taken, err_on, put_back}
use Rattle.core_begin.proofs.BeginLemmas.{given_usable, left_early, left_same}
use Rattle.core_begin.proofs.moves.advance.Goals as goal
use Rattle.core_begin.proofs.MayLemmas.{may_after, rest_after, rest_same}

pub move_on-requires : goal.move_on-requires
move_on-requires g c = record { usable = given_usable g.D.Device c.args.desk.now c.args.kept.now c.args.unit.now c.requires.given }

pub returns-in-Some-clause-left : goal.returns-in-Some-clause-left
returns-in-Some-clause-left g c =
    left_early g.D.Device c.args.desk.now c.move_on.new.desk c.args.kept.now c.args.unit.now c.take_scan.new.unit c.move_on.new.unit c.move_on.result c.requires.given c.move_on.ensures.answers c.in-Some.ensures.taken c.move_on.ensures.group c.move_on.ensures.early

pub returns-in-Some-clause-entries : goal.returns-in-Some-clause-entries
returns-in-Some-clause-entries g c =
    entries_taken c.args.desk.now c.move_on.new.desk c.args.unit.now c.take_scan.new.unit c.move_on.result c.in-Some.ensures.taken.rest c.move_on.ensures.entries

pub returns-in-Some-clause-kept : goal.returns-in-Some-clause-kept
returns-in-Some-clause-kept g c =
    err_on c.move_on.result _
    (λ fault left. subst (λ (u : UnitState). IsLeftByMove u fault c.move_on.new.unit)
    (put_back c.args.unit.now c.take_scan.new.unit (works.Scanning c.in-Some.scan) c.in-Some.ensures.taken.rest c.in-Some.ensures.scan) left)
    c.move_on.ensures.kept

pub returns-in-None-clause-left : goal.returns-in-None-clause-left
returns-in-None-clause-left g c =
    left_same g.D.Device c.args.desk.now c.args.kept.now c.args.unit.now c.take_scan.new.unit c.requires.given c.in-None.ensures.taken

pub returns-in-Some-clause-rest : goal.returns-in-Some-clause-rest
returns-in-Some-clause-rest g c = rest_after c.args.unit.now c.take_scan.new.unit c.move_on.new.unit works.Judged c.in-Some.ensures.taken.rest c.move_on.ensures.rest

pub returns-in-Some-clause-may : goal.returns-in-Some-clause-may
returns-in-Some-clause-may g c = may_after MayMove c.args.unit.now c.take_scan.new.unit works.Judged c.move_on.result c.in-Some.ensures.taken.rest c.move_on.ensures.may

pub returns-in-None-clause-rest : goal.returns-in-None-clause-rest
returns-in-None-clause-rest g c = rest_same c.args.unit.now c.take_scan.new.unit c.in-None.ensures.taken
