use Rattle.std.proofs.Common.{arith}
use Rattle.test_space.proofs.derived.free_space_is_what_the_mappings_leave.Goals as goal

pub free_of-requires-clause-rising : goal.free_of-requires-clause-rising
free_of-requires-clause-rising g c = (omega arith, (omega arith, (omega arith, tt)))

pub free_of-requires-clause-within : goal.free_of-requires-clause-within
free_of-requires-clause-within g c = (omega arith, (omega arith, (omega arith, (omega arith, tt))))
