use Rattle.law_writers.proofs.Run.Found.{chunk_found, intent_found, listed_found, mapped_found, refilled_found}
use Rattle.law_writers.proofs.run_laws.records_found.Goals as goal

pub returns-clause-intent : goal.returns-clause-intent
returns-clause-intent c = intent_found

pub returns-clause-listed : goal.returns-clause-listed
returns-clause-listed c = listed_found

pub returns-clause-mapped : goal.returns-clause-mapped
returns-clause-mapped c = mapped_found

pub returns-clause-refilled : goal.returns-clause-refilled
returns-clause-refilled c = refilled_found

pub returns-clause-chunk : goal.returns-clause-chunk
returns-clause-chunk c = chunk_found
