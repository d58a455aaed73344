use Rattle.std.proofs.Common.{length}
use Rattle.draft_check.specs.Drafts.{AreStamped}
use Rattle.draft_check.proofs.stamped.are_stamped.Given as goal

-- where the rest have it, all have
abbrev pub invariant-loop-block : goal.invariant-loop-block
invariant-loop-block l = AreStamped l.lsn l.rest → AreStamped l.lsn l.placed

abbrev pub decreases-loop-block : goal.decreases-loop-block
decreases-loop-block l = length l.rest
