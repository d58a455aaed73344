use Rattle.draft_check.proofs.DraftLemmas.{keeps_joined}
use Rattle.draft_check.proofs.laws.keeps_joined.Goals as goal

pub returns : goal.returns
returns c = keeps_joined
