use Rattle.core_begin.proofs.AfterLemmas.{entries_put, left_put}
use Rattle.core_begin.proofs.pieces.take_piece.Goals as goal
use Rattle.core_parts.specs.declared.units.Work.TheVariants as works
use Rattle.core_begin.proofs.MayLemmas.{one_after, rest_after, rest_put}
use Rattle.core_begin.specs.After.{MayRead}

pub returns-in-Bad-clause-entries : goal.returns-in-Bad-clause-entries
returns-in-Bad-clause-entries g c =
    entries_put c.args.desk.now c.give_up.new.desk c.args.unit.now c.put_scan.new.unit (works.Scanning c.args.scan) c.give_up.result c.put_scan.ensures.put c.give_up.ensures.entries

pub returns-in-Bad-clause-kept : goal.returns-in-Bad-clause-kept
returns-in-Bad-clause-kept g c =
    left_put c.args.unit.now c.put_scan.new.unit c.give_up.new.unit (works.Scanning c.args.scan) c.give_up.result c.put_scan.ensures.put c.give_up.ensures.kept

pub returns-in-Given-clause-rest : goal.returns-in-Given-clause-rest
returns-in-Given-clause-rest g c = rest_put c.args.unit.now c.put_scan.new.unit (works.Scanning c.args.scan) c.put_scan.ensures.put

pub returns-in-Bad-clause-rest : goal.returns-in-Bad-clause-rest
returns-in-Bad-clause-rest g c = rest_after c.args.unit.now c.put_scan.new.unit c.give_up.new.unit (works.Scanning c.args.scan) c.put_scan.ensures.put c.give_up.ensures.rest

pub returns-in-Bad-clause-may : goal.returns-in-Bad-clause-may
returns-in-Bad-clause-may g c = one_after MayRead c.args.unit.now c.put_scan.new.unit (works.Scanning c.args.scan) c.give_up.result c.put_scan.ensures.put (c.give_up.ensures.may tt)
