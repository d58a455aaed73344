use Rattle.std.proofs.Common.{length}
use Rattle.file_cores.proofs.mapped.+is_range_mapped.Given as goal

abbrev pub decreases-is_range_mapped : goal.decreases-is_range_mapped
decreases-is_range_mapped l = length l.list.now
