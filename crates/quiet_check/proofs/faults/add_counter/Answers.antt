use Rattle.quiet_check.proofs.FaultLemmas.{counter_put}
use Rattle.quiet_check.proofs.faults.add_counter.Goals as goal

pub returns : goal.returns
returns c = counter_put c.add_blocks.result c.args.faults.now.items c.add_blocks.new.faults.items c.args.name c.args.found c.args.wanted c.add_blocks.ensures
