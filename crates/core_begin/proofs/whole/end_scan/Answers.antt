use Rattle.std.proofs.Common.{refl}
use Rattle.core_begin.proofs.BeginLemmas.{given_usable, left_early, left_same, usable_ok}
use Rattle.core_begin.proofs.whole.end_scan.Goals as goal
use Rattle.core_begin.proofs.MayLemmas.{rest_after, rest_same}
use Rattle.core_parts.specs.declared.units.Work.TheVariants as works

pub returns-in-Some-clause-left : goal.returns-in-Some-clause-left
returns-in-Some-clause-left g c =
    let usable = given_usable g.D.Device c.args.desk.now c.args.kept.now c.args.unit.now c.requires.given in
    left_early g.D.Device c.args.desk.now c.args.desk.now c.args.kept.now c.args.unit.now c.take_scan.new.unit _ _ c.requires.given (usable_ok g.D.Device {T = Unit {0}} c.args.desk.now tt usable) c.in-Some.ensures.taken refl tt

pub returns-in-None-clause-left : goal.returns-in-None-clause-left
returns-in-None-clause-left g c =
    left_same g.D.Device c.args.desk.now c.args.kept.now c.args.unit.now c.take_scan.new.unit c.requires.given c.in-None.ensures.taken

pub returns-in-Some-clause-rest : goal.returns-in-Some-clause-rest
returns-in-Some-clause-rest g c = rest_after c.args.unit.now c.take_scan.new.unit _ works.Judged c.in-Some.ensures.taken.rest refl

pub returns-in-None-clause-rest : goal.returns-in-None-clause-rest
returns-in-None-clause-rest g c = rest_same c.args.unit.now c.take_scan.new.unit c.in-None.ensures.taken
