use Rattle.core_begin.proofs.AfterLemmas.{stuck_reaches}
use Rattle.core_begin.proofs.moves.next_inode.Goals as goal

pub returns-in-Err-clause-reaches : goal.returns-in-Err-clause-reaches
returns-in-Err-clause-reaches g c = stuck_reaches c.args.scan.now c.ask_next.new.scan c.stuck_at.result c.stuck_at.ensures.stuck c.in-Err.ensures.kept
