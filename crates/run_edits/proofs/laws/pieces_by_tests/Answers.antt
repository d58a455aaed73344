use Rattle.run_edits.proofs.TupleLemmas.{by_tests}
use Rattle.run_edits.proofs.laws.pieces_by_tests.Goals as goal

pub returns : goal.returns
returns c = by_tests
