use Rattle.std.proofs.Common.{arith}
use Rattle.std.proofs.lemmas.Result.{IfOk-weaker, on_ok_weaker}
use Rattle.run_sets.specs.Sets.{has}
use Rattle.tree_claims.proofs.ClaimLemmas.{none_claimed}
use Rattle.tree_claims.proofs.claims.claimed_at.Goals as goal
use Rattle.tree_claims.proofs.claims.claimed_at.Goals.{then-root-eq0-via-then-root-eq0, then-root-eq0-via-else-root-eq0+then-root-site}

pub returns-then-root-eq0-clause-exact : goal.returns-then-root-eq0-clause-exact
returns-then-root-eq0-clause-exact g c = λ m e.
    IfOk-weaker c.empty_set.result _ _
    (λ set empty. none_claimed g.K.RecKind.form c.args.site.now m c.args.tree.now.root c.args.tree.now.levels (has set)
    (λ some below. elim c.then-root-eq0.branch [
      | then-root-eq0-via-then-root-eq0 w ↦ omega (arith, some, below)
      | then-root-eq0-via-else-root-eq0+then-root-site w ↦ omega (arith, some, below)
    ])
    empty)
    c.empty_set.ensures.empty

pub returns-then-root-eq0-clause-each : goal.returns-then-root-eq0-clause-each
returns-then-root-eq0-clause-each g c = λ m e.
    IfOk-weaker c.empty_set.result _ _
    (λ set empty. λ some below. absurd (elim c.then-root-eq0.branch [
      | then-root-eq0-via-then-root-eq0 w ↦ omega (arith, some, below)
      | then-root-eq0-via-else-root-eq0+then-root-site w ↦ omega (arith, some, below)
    ]))
    c.empty_set.ensures.empty

pub returns-clause-each : goal.returns-clause-each
returns-clause-each g c = λ m e. on_ok_weaker c.claimed_from.result (λ h some below. h) (c.claimed_from.ensures.each m e)
