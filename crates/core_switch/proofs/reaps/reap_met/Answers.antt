use Rattle.core_switch.proofs.SayLemmas.{met_says}
use Rattle.core_switch.proofs.reaps.reap_met.Goals as goal

pub returns-clause-says : goal.returns-clause-says
returns-clause-says g c = λ run. met_says c.args.desk.now c.mark.new.desk c.args.group run c.args.cause c.args.kept.now c.mark.new.kept c.mark.ensures.more c.mark.ensures.trust c.mark.ensures.limbo
