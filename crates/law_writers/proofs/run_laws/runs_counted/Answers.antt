use Rattle.law_writers.proofs.Run.Chunks.{chunk_claims}
use Rattle.law_writers.proofs.Run.Listed.{refilled_claims, trimmed_claims}
use Rattle.law_writers.proofs.run_laws.runs_counted.Goals as goal

pub returns-clause-refilled : goal.returns-clause-refilled
returns-clause-refilled c = refilled_claims

pub returns-clause-trimmed : goal.returns-clause-trimmed
returns-clause-trimmed c = trimmed_claims

pub returns-clause-chunk : goal.returns-clause-chunk
returns-clause-chunk c = chunk_claims
