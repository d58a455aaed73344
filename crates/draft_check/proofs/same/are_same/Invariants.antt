use Rattle.std.proofs.Common.{◌≡◌, length}
use Rattle.draft_check.proofs.same.are_same.Given as goal

-- where the rests are one, the lists are
abbrev pub invariant-loop-first : goal.invariant-loop-first
invariant-loop-first g l = l.rest ≡ l.others → l.a ≡ l.b

abbrev pub decreases-loop-first : goal.decreases-loop-first
decreases-loop-first g l = length l.rest
