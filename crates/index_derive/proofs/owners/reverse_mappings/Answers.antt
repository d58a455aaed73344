use Rattle.std.proofs.lemmas.Result.{IfOk-weaker}
use Rattle.rmap_recs.specs.Runs.{AreRuns}
use Rattle.index_derive.specs.Owners.{claimed_tuples}
use Rattle.index_derive.proofs.OwnerLemmas.{only_claimed}
use Rattle.index_derive.proofs.owners.reverse_mappings.Goals as goal

pub returns-clause-exact : goal.returns-clause-exact
returns-clause-exact c a g are =
    IfOk-weaker c.join_pieces.result (λ recs. AreRuns (claimed_tuples a g) recs.items) _ (λ recs runs. only_claimed a g are.orderly recs.items runs) (c.join_pieces.ensures.exact (claimed_tuples a g) are.same)
