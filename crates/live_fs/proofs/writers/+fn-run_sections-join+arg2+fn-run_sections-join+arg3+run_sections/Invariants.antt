use Rattle.std.proofs.Common.{◌+◌, ◌*◌, length}
use Rattle.live_fs.proofs.writers.+fn-run_sections-join+arg2+fn-run_sections-join+arg3+run_sections.Given as goal

abbrev pub decreases-join+arg2 : goal.decreases-join+arg2
decreases-join+arg2 g l = 2 * length l.lower.now + 1

abbrev pub decreases-join+arg3 : goal.decreases-join+arg3
decreases-join+arg3 g l = 2 * length l.upper.now + 1

abbrev pub decreases-run_sections : goal.decreases-run_sections
decreases-run_sections g l = 2 * length l.sections.now
