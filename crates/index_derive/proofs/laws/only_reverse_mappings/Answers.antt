use Rattle.index_derive.proofs.OwnerLemmas.{only_claimed, runs_if}
use Rattle.index_derive.proofs.laws.only_reverse_mappings.Goals as goal

pub returns : goal.returns
returns c a g recs orderly = (only_claimed a g orderly recs, runs_if a g orderly recs)
