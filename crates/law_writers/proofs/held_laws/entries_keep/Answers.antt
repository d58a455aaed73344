use Rattle.law_writers.proofs.Held.Kept.{chunk_kept, converted_kept, freed_kept, given_kept, mapped_kept, ref_done_kept, refilled_kept, rmap_done_kept, shared_kept, taken_kept, trimmed_kept, unmapped_kept}
use Rattle.law_writers.proofs.held_laws.entries_keep.Goals as goal

pub returns-clause-mapped : goal.returns-clause-mapped
returns-clause-mapped c = mapped_kept

pub returns-clause-unmapped : goal.returns-clause-unmapped
returns-clause-unmapped c = unmapped_kept

pub returns-clause-converted : goal.returns-clause-converted
returns-clause-converted c = converted_kept

pub returns-clause-shared : goal.returns-clause-shared
returns-clause-shared c = shared_kept

pub returns-clause-refilled : goal.returns-clause-refilled
returns-clause-refilled c = refilled_kept

pub returns-clause-trimmed : goal.returns-clause-trimmed
returns-clause-trimmed c = trimmed_kept

pub returns-clause-taken : goal.returns-clause-taken
returns-clause-taken c = taken_kept

pub returns-clause-given : goal.returns-clause-given
returns-clause-given c = given_kept

pub returns-clause-mappings : goal.returns-clause-mappings
returns-clause-mappings c = rmap_done_kept

pub returns-clause-counts : goal.returns-clause-counts
returns-clause-counts c = ref_done_kept

pub returns-clause-chunk : goal.returns-clause-chunk
returns-clause-chunk c = chunk_kept

pub returns-clause-freed : goal.returns-clause-freed
returns-clause-freed c = freed_kept
