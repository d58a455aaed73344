use Rattle.tree_cover.proofs.MeetLemmas.{staging_meets_none_lem}
use Rattle.tree_cover.proofs.laws.staging_meets_none.Goals as goal

pub returns : goal.returns
returns c = staging_meets_none_lem
