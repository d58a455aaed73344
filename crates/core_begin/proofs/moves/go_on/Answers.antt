use Rattle.core_begin.proofs.AfterLemmas.{entries_put, left_at, left_put, memory_left, memory_more}
use Rattle.core_begin.proofs.moves.go_on.Goals as goal
use Rattle.core_begin.specs.declared.moves.Reach.TheVariants as reaches
use Rattle.core_parts.specs.declared.units.Work.TheVariants as works
use Rattle.core_begin.proofs.MayLemmas.{lost_move, memory_move, one_after, read_move, rest_after, rest_put}
use Rattle.core_begin.specs.After.{MayMove}

pub returns-in-End-clause-entries : goal.returns-in-End-clause-entries
returns-in-End-clause-entries g c = memory_more c.args.desk.now c.args.unit.now.group c.args.unit.now.unit c.end_scan.result c.end_scan.ensures.memory

pub returns-in-End-clause-kept : goal.returns-in-End-clause-kept
returns-in-End-clause-kept g c = memory_left c.args.reach _ c.end_scan.new.unit c.end_scan.result c.in-End.is c.end_scan.ensures.memory c.end_scan.ensures.kept

pub returns-in-Busy-clause-entries : goal.returns-in-Busy-clause-entries
returns-in-Busy-clause-entries g c =
    entries_put c.args.desk.now c.lose_turn.new.desk c.args.unit.now c.put_scan-in-Busy.new.unit (works.Scanning c.args.scan) c.lose_turn.result c.put_scan-in-Busy.ensures.put (c.lose_turn.ensures.entries tt)

pub returns-in-Busy-clause-kept : goal.returns-in-Busy-clause-kept
returns-in-Busy-clause-kept g c =
    left_at c.args.reach (reaches.Busy c.in-Busy.ino) _ c.lose_turn.new.unit c.lose_turn.result c.in-Busy.is
    (left_put c.args.unit.now c.put_scan-in-Busy.new.unit c.lose_turn.new.unit (works.Scanning c.args.scan) c.lose_turn.result c.put_scan-in-Busy.ensures.put (c.lose_turn.ensures.kept tt))

pub returns-in-Bad-clause-entries : goal.returns-in-Bad-clause-entries
returns-in-Bad-clause-entries g c =
    entries_put c.args.desk.now c.give_up.new.desk c.args.unit.now c.put_scan-in-Bad.new.unit (works.Scanning c.args.scan) c.give_up.result c.put_scan-in-Bad.ensures.put c.give_up.ensures.entries

pub returns-in-Bad-clause-kept : goal.returns-in-Bad-clause-kept
returns-in-Bad-clause-kept g c =
    left_at c.args.reach (reaches.Bad c.in-Bad.block) _ c.give_up.new.unit c.give_up.result c.in-Bad.is
    (left_put c.args.unit.now c.put_scan-in-Bad.new.unit c.give_up.new.unit (works.Scanning c.args.scan) c.give_up.result c.put_scan-in-Bad.ensures.put c.give_up.ensures.kept)

pub returns-in-At-clause-rest : goal.returns-in-At-clause-rest
returns-in-At-clause-rest g c = rest_put c.args.unit.now c.put_scan.new.unit (works.Scanning c.args.scan) c.put_scan.ensures.put

pub returns-in-End-clause-may : goal.returns-in-End-clause-may
returns-in-End-clause-may g c = memory_move c.args.unit.now.turns c.end_scan.result c.end_scan.ensures.memory

pub returns-in-Busy-clause-rest : goal.returns-in-Busy-clause-rest
returns-in-Busy-clause-rest g c = rest_after c.args.unit.now c.put_scan-in-Busy.new.unit c.lose_turn.new.unit (works.Scanning c.args.scan) c.put_scan-in-Busy.ensures.put c.lose_turn.ensures.rest

pub returns-in-Busy-clause-may : goal.returns-in-Busy-clause-may
returns-in-Busy-clause-may g c =
    one_after MayMove c.args.unit.now c.put_scan-in-Busy.new.unit (works.Scanning c.args.scan) c.lose_turn.result c.put_scan-in-Busy.ensures.put
    (lost_move c.put_scan-in-Busy.new.unit.turns c.in-Busy.ino c.lose_turn.result c.lose_turn.ensures.may)

pub returns-in-Bad-clause-rest : goal.returns-in-Bad-clause-rest
returns-in-Bad-clause-rest g c = rest_after c.args.unit.now c.put_scan-in-Bad.new.unit c.give_up.new.unit (works.Scanning c.args.scan) c.put_scan-in-Bad.ensures.put c.give_up.ensures.rest

pub returns-in-Bad-clause-may : goal.returns-in-Bad-clause-may
returns-in-Bad-clause-may g c =
    one_after MayMove c.args.unit.now c.put_scan-in-Bad.new.unit (works.Scanning c.args.scan) c.give_up.result c.put_scan-in-Bad.ensures.put
    (read_move c.put_scan-in-Bad.new.unit.turns c.give_up.result (c.give_up.ensures.may tt))
