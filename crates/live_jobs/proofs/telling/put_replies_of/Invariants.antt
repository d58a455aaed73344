use Rattle.std.proofs.Common.{◌≤◌, length}
use Rattle.live_jobs.proofs.telling.put_replies_of.Given as goal

abbrev pub invariant-loop-entry : goal.invariant-loop-entry
invariant-loop-entry g l = length l.gathered.items ≤ 65536
