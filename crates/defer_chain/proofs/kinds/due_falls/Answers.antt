use Rattle.defer_chain.proofs.DueLemmas.{due_falls}
use Rattle.defer_chain.proofs.kinds.due_falls.Goals as goal

pub returns : goal.returns
returns c = due_falls
