use Rattle.law_writers.proofs.Change.Settled.{finished_step_moves}
use Rattle.law_writers.proofs.change_laws.finished_step_moves.Goals as goal

pub returns : goal.returns
returns c = finished_step_moves
