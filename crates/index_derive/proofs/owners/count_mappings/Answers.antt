use Rattle.std.proofs.Common.{List, ◌∙◌, ap, length}
use Rattle.rmap_recs.specs.declared.records.RmapRec.{RmapRec}
use Rattle.run_edits.specs.Pieces.{joined_pieces}
use Rattle.run_edits.proofs.PieceLemmas.{pieces_exact}
use Rattle.index_derive.specs.Owners.{claimed_tuples}
use Rattle.index_derive.proofs.OwnerLemmas.{only_claimed}
use Rattle.index_derive.proofs.owners.count_mappings.Goals as goal

pub returns-clause-exact : goal.returns-clause-exact
returns-clause-exact c a g are =
    c.count_runs.ensures ∙ ap (λ (rs : List RmapRec). length rs) (only_claimed a g are.orderly (joined_pieces c.args.pieces.now) (pieces_exact (claimed_tuples a g) c.args.pieces.now c.requires are.same))
