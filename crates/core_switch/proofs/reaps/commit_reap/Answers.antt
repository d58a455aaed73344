use Rattle.std.proofs.Common.{refl}
use Rattle.core_switch.proofs.SayLemmas.{reaped_says}
use Rattle.core_switch.proofs.reaps.commit_reap.Goals as goal

pub returns-clause-says : goal.returns-clause-says
returns-clause-says g c =
    reaped_says c.args.desk.now c.commit_at.new.desk c.settle_reap.new.desk c.args.group c.args.run.now c.args.kept.now c.args.kept.now c.settle_reap.new.kept c.commit_at.ensures.items refl c.settle_reap.ensures.reaped
