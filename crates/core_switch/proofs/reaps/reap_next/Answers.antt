use Rattle.core_switch.proofs.SayLemmas.{run_after}
use Rattle.core_switch.proofs.reaps.reap_next.Goals as goal

pub returns-clause-says : goal.returns-clause-says
returns-clause-says g c =
    run_after c.args.desk.now c.entry_room.new.desk c.reap_with_room.new.desk c.args.unit.now.group c.args.run.now c.args.kept.now c.reap_with_room.new.kept c.reap_with_room.result c.entry_room.ensures.same.items c.reap_with_room.ensures.says
