use Rattle.law_cuts.proofs.Behind.Behind.{chunk_behind, converted_behind, elsewhere_behind, freed_behind, given_behind, mapped_behind, ref_done_behind, refilled_behind, rmap_done_behind, shared_behind, taken_behind, trimmed_behind, unmapped_behind}
use Rattle.law_cuts.proofs.behind_laws.entries_keep_behind.Goals as goal

pub returns-clause-mapped : goal.returns-clause-mapped
returns-clause-mapped c = mapped_behind

pub returns-clause-unmapped : goal.returns-clause-unmapped
returns-clause-unmapped c = unmapped_behind

pub returns-clause-converted : goal.returns-clause-converted
returns-clause-converted c = converted_behind

pub returns-clause-shared : goal.returns-clause-shared
returns-clause-shared c = shared_behind

pub returns-clause-refilled : goal.returns-clause-refilled
returns-clause-refilled c = refilled_behind

pub returns-clause-trimmed : goal.returns-clause-trimmed
returns-clause-trimmed c = trimmed_behind

pub returns-clause-chunk : goal.returns-clause-chunk
returns-clause-chunk c = chunk_behind

pub returns-clause-taken : goal.returns-clause-taken
returns-clause-taken c = taken_behind

pub returns-clause-given : goal.returns-clause-given
returns-clause-given c = given_behind

pub returns-clause-mappings : goal.returns-clause-mappings
returns-clause-mappings c = rmap_done_behind

pub returns-clause-counts : goal.returns-clause-counts
returns-clause-counts c = ref_done_behind

pub returns-clause-freed : goal.returns-clause-freed
returns-clause-freed c = freed_behind

pub returns-clause-elsewhere : goal.returns-clause-elsewhere
returns-clause-elsewhere c = elsewhere_behind
