use Rattle.core_switch.proofs.SayLemmas.{run_after, run_reaped}
use Rattle.core_switch.proofs.reaps.reap_with_room.Goals as goal

pub returns-in-Met-clause-says : goal.returns-in-Met-clause-says
returns-in-Met-clause-says g c =
    run_after c.args.desk.now c.reap_at.new.desk c.reap_met.new.desk c.args.unit.now.group c.args.run.now c.args.kept.now c.reap_met.new.kept c.reap_met.result c.reap_at.ensures.items (c.reap_met.ensures.says c.args.run.now)

pub returns-in-Done-clause-says : goal.returns-in-Done-clause-says
returns-in-Done-clause-says g c =
    run_reaped c.args.desk.now c.reap_at.new.desk c.reap_done.new.desk c.args.unit.now.group c.args.run.now c.args.kept.now c.reap_done.new.kept c.reap_done.result c.reap_at.ensures.items c.reap_done.ensures.says
