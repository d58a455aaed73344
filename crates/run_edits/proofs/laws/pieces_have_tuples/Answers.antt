use Rattle.run_edits.proofs.TupleLemmas.{have_tuples}
use Rattle.run_edits.proofs.laws.pieces_have_tuples.Goals as goal

pub returns : goal.returns
returns c = have_tuples
