use Rattle.std.proofs.Common.{length}
use Rattle.fork_change.proofs.written.+lay.Given as goal

abbrev pub decreases-lay : goal.decreases-lay
decreases-lay l = length l.list.now
