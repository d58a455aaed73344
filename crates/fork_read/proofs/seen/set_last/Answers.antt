use Rattle.fork_read.proofs.SeenLemmas.{last_set}
use Rattle.fork_read.proofs.seen.set_last.Goals as goal

pub returns : goal.returns
returns c = λ l. last_set c.args.lasts.now c.args.level l c.args.read c.requires
