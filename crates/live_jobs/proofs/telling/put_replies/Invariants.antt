use Rattle.std.proofs.Common.{◌≤◌, length}
use Rattle.live_jobs.proofs.telling.put_replies.Given as goal

abbrev pub invariant-loop-writer : goal.invariant-loop-writer
invariant-loop-writer g l = length l.gathered.items ≤ 65536
