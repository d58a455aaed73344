use Rattle.std.proofs.Common.{arith}
use Rattle.test_space.proofs.derived.written_data_blocks_of_several_files_are_shared.Goals as goal

pub shared_of-requires : goal.shared_of-requires
shared_of-requires g c = record { within = (omega arith, (omega arith, (omega arith, (omega arith, (omega arith, (omega arith, (omega arith, tt))))))) }
