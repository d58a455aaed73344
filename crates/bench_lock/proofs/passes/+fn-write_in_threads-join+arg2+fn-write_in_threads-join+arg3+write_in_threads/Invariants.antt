use Rattle.std.proofs.Common.{◌+◌, ◌*◌}
use Rattle.bench_lock.proofs.passes.+fn-write_in_threads-join+arg2+fn-write_in_threads-join+arg3+write_in_threads.Given as goal

abbrev pub decreases-join+arg2 : goal.decreases-join+arg2
decreases-join+arg2 g l = 2 * l.half + 1

abbrev pub decreases-join+arg3 : goal.decreases-join+arg3
decreases-join+arg3 g l = 2 * l.rest + 1

abbrev pub decreases-write_in_threads : goal.decreases-write_in_threads
decreases-write_in_threads g l = 2 * l.actors
