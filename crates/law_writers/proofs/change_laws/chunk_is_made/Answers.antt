use Rattle.law_writers.proofs.Change.Made.{chunk_is_made}
use Rattle.law_writers.proofs.change_laws.chunk_is_made.Goals as goal

pub returns : goal.returns
returns c = chunk_is_made
