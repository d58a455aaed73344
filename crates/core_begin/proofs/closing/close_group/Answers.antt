use Rattle.core_parts.proofs.common.AskLemmas.{steady_on}
use Rattle.core_begin.proofs.AfterLemmas.{entries_put, left_put}
use Rattle.core_begin.proofs.BeginLemmas.{refused}
use Rattle.core_parts.specs.declared.units.Work.TheVariants as works
use Rattle.core_parts.proofs.common.EntryLemmas.{more_after}
use Rattle.core_begin.proofs.closing.close_group.Goals as goal
use Rattle.core_begin.proofs.MayLemmas.{lost_close, one_after, rest_after, rest_put}
use Rattle.core_begin.specs.After.{MayClose}

pub returns-in-Err-clause-answers : goal.returns-in-Err-clause-answers
returns-in-Err-clause-answers g c =
    let steady = steady_on g.D.Device c.args.desk.now c.close_gate.new.desk c.lose_turn.new.desk c.close_gate.ensures.steady c.lose_turn.ensures.steady in
    refused g.D.Device c.args.desk.now c.lose_turn.new.desk c.lose_turn.result c.lose_turn.ensures.desk steady c.lose_turn.ensures.reason

pub returns-in-Err-clause-entries : goal.returns-in-Err-clause-entries
returns-in-Err-clause-entries g c =
    more_after c.args.desk.now c.close_gate.new.desk c.lose_turn.new.desk _ c.close_gate.ensures.items
    (entries_put c.close_gate.new.desk c.lose_turn.new.desk c.args.unit.now c.put_work-in-Err.new.unit (works.Open c.args.owners) c.lose_turn.result c.put_work-in-Err.ensures.put (c.lose_turn.ensures.entries tt))

pub returns-in-Err-clause-kept : goal.returns-in-Err-clause-kept
returns-in-Err-clause-kept g c =
    left_put c.args.unit.now c.put_work-in-Err.new.unit c.lose_turn.new.unit (works.Open c.args.owners) c.lose_turn.result c.put_work-in-Err.ensures.put (c.lose_turn.ensures.kept tt)

pub returns-in-Ok-clause-rest : goal.returns-in-Ok-clause-rest
returns-in-Ok-clause-rest g c = rest_put c.args.unit.now c.put_work.new.unit (works.Closed c.args.owners) c.put_work.ensures.put

pub returns-in-Err-clause-rest : goal.returns-in-Err-clause-rest
returns-in-Err-clause-rest g c = rest_after c.args.unit.now c.put_work-in-Err.new.unit c.lose_turn.new.unit (works.Open c.args.owners) c.put_work-in-Err.ensures.put c.lose_turn.ensures.rest

pub returns-in-Err-clause-may : goal.returns-in-Err-clause-may
returns-in-Err-clause-may g c =
    one_after MayClose c.args.unit.now c.put_work-in-Err.new.unit (works.Open c.args.owners) c.lose_turn.result c.put_work-in-Err.ensures.put
    (lost_close c.put_work-in-Err.new.unit.turns c.args.unit.now.group c.in-Err.count c.lose_turn.result c.lose_turn.ensures.may)
