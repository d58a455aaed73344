use Rattle.std.proofs.Common.{refl}
use Rattle.rmap_recs.specs.Rmap.{has_end}
use Rattle.rmap_recs.specs.Words.{is_fork_data}
use Rattle.test_records.proofs.mappings.an_entry_is_the_low_and_the_high_key.Goals as goal

pub high_key_of-requires : goal.high_key_of-requires
unfolding has_end is_fork_data
high_key_of-requires g c = refl
