use Rattle.free_space.proofs.ChoiceLemmas.{last_unasked}
use Rattle.free_space.proofs.choice.last_unasked.Goals as goal

pub returns : goal.returns
returns c = last_unasked
