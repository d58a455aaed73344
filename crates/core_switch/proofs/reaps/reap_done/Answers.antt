use Rattle.std.proofs.Common.{refl}
use Rattle.core_switch.proofs.SayLemmas.{reaped_by}
use Rattle.core_switch.proofs.reaps.reap_done.Goals as goal

pub returns-in-Ok-clause-says : goal.returns-in-Ok-clause-says
returns-in-Ok-clause-says g c =
    reaped_by c.args.desk.now c.commit_reap.new.desk c.args.group c.args.run.now c.args.kept.now _ c.commit_reap.new.kept c.commit_reap.result refl c.commit_reap.ensures.says
