use Rattle.law_writers.proofs.Change.Rows.{step_keeps_chunks}
use Rattle.law_writers.proofs.change_laws.step_keeps_chunks.Goals as goal

pub returns : goal.returns
returns c = step_keeps_chunks
