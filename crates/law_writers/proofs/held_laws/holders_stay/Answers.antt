use Rattle.law_writers.proofs.Held.Holders.{chunk_held, others_held}
use Rattle.law_writers.proofs.Held.Held.{converted_held, mapped_held, shared_held, unmapped_held}
use Rattle.law_writers.proofs.held_laws.holders_stay.Goals as goal

pub returns-clause-mapped : goal.returns-clause-mapped
returns-clause-mapped c = mapped_held

pub returns-clause-unmapped : goal.returns-clause-unmapped
returns-clause-unmapped c = unmapped_held

pub returns-clause-converted : goal.returns-clause-converted
returns-clause-converted c = converted_held

pub returns-clause-shared : goal.returns-clause-shared
returns-clause-shared c = shared_held

pub returns-clause-others : goal.returns-clause-others
returns-clause-others c = others_held

pub returns-clause-chunk : goal.returns-clause-chunk
returns-clause-chunk c = chunk_held
