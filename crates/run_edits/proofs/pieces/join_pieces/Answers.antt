use Rattle.std.proofs.Common.{sym, subst}
use Rattle.rmap_recs.specs.Runs.{AreRuns}
use Rattle.run_edits.proofs.PieceLemmas.{pieces_exact}
use Rattle.run_edits.proofs.pieces.join_pieces.Goals as goal

pub returns-clause-exact : goal.returns-clause-exact
returns-clause-exact c = λ ts tuples. subst (AreRuns ts) (sym c.in_ok-joined_by.ensures) (pieces_exact ts c.args.pieces.now c.requires tuples)
