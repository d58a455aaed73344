use Rattle.draft_check.proofs.DraftLemmas.{puts_one_of, puts_stamped}
use Rattle.draft_check.proofs.laws.puts_as_made.Goals as goal

pub returns : goal.returns
returns c = record { bytes = puts_one_of; stamped = puts_stamped }
