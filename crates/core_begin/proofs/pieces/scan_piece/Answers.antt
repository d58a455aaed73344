use Rattle.std.proofs.Common.{subst}
use Rattle.core_begin.specs.After.{IsLeftByPiece, MayRead}
use Rattle.core_parts.specs.declared.units.UnitState.{UnitState}
use Rattle.core_parts.specs.declared.units.Work.TheVariants as works
use Rattle.core_begin.proofs.AfterLemmas.{entries_taken, err_on, put_back}
use Rattle.core_begin.proofs.BeginLemmas.{given_usable, left_early, left_same}
use Rattle.core_begin.proofs.pieces.scan_piece.Goals as goal
use Rattle.core_begin.proofs.MayLemmas.{may_after, rest_after, rest_same}

pub read_held-requires : goal.read_held-requires
read_held-requires g c = record { usable = given_usable g.D.Device c.args.desk.now c.args.kept.now c.args.unit.now c.requires.given }

pub returns-in-Some-clause-left : goal.returns-in-Some-clause-left
returns-in-Some-clause-left g c =
    left_early g.D.Device c.args.desk.now c.read_held.new.desk c.args.kept.now c.args.unit.now c.take_scan.new.unit c.read_held.new.unit c.read_held.result c.requires.given c.read_held.ensures.answers c.in-Some.ensures.taken c.read_held.ensures.group c.read_held.ensures.early

pub returns-in-Some-clause-entries : goal.returns-in-Some-clause-entries
returns-in-Some-clause-entries g c =
    entries_taken c.args.desk.now c.read_held.new.desk c.args.unit.now c.take_scan.new.unit c.read_held.result c.in-Some.ensures.taken.rest c.read_held.ensures.entries

pub returns-in-Some-clause-kept : goal.returns-in-Some-clause-kept
returns-in-Some-clause-kept g c =
    err_on c.read_held.result _
    (λ fault left. subst (λ (u : UnitState). IsLeftByPiece u fault c.read_held.new.unit)
    (put_back c.args.unit.now c.take_scan.new.unit (works.Scanning c.in-Some.scan) c.in-Some.ensures.taken.rest c.in-Some.ensures.scan) left)
    c.read_held.ensures.kept

pub returns-in-None-clause-left : goal.returns-in-None-clause-left
returns-in-None-clause-left g c =
    left_same g.D.Device c.args.desk.now c.args.kept.now c.args.unit.now c.take_scan.new.unit c.requires.given c.in-None.ensures.taken

pub returns-in-Some-clause-rest : goal.returns-in-Some-clause-rest
returns-in-Some-clause-rest g c = rest_after c.args.unit.now c.take_scan.new.unit c.read_held.new.unit works.Judged c.in-Some.ensures.taken.rest c.read_held.ensures.rest

pub returns-in-Some-clause-may : goal.returns-in-Some-clause-may
returns-in-Some-clause-may g c = may_after MayRead c.args.unit.now c.take_scan.new.unit works.Judged c.read_held.result c.in-Some.ensures.taken.rest c.read_held.ensures.may

pub returns-in-None-clause-rest : goal.returns-in-None-clause-rest
returns-in-None-clause-rest g c = rest_same c.args.unit.now c.take_scan.new.unit c.in-None.ensures.taken
