use Rattle.std.proofs.Common.{◌≡◌, sym, ap, ◌∙◌, subst}
use Rattle.std.proofs.lemmas.Result.{IfOk-weaker}
use Rattle.run_sets.specs.Runs.{AreMaximal, holds}
use Rattle.index_derive.specs.Runs.{merged}
use Rattle.index_derive.proofs.RunLemmas.{joined_maximal, joined_holds}
use Rattle.index_derive.proofs.runs.joined_runs.Goals as goal

pub returns-clause-maximal : goal.returns-clause-maximal
returns-clause-maximal c = IfOk-weaker c.join_all.result (λ found. found.items ≡ merged 0 0 c.args.runs.now) _
    (λ found is. subst (AreMaximal 0) (sym is) (joined_maximal c.args.runs.now c.requires.rising)) c.join_all.ensures

pub returns-clause-exact : goal.returns-clause-exact
returns-clause-exact c = IfOk-weaker c.join_all.result (λ found. found.items ≡ merged 0 0 c.args.runs.now) _
    (λ found is b. ap (λ rs. holds rs b) is ∙ joined_holds c.args.runs.now b c.requires.rising) c.join_all.ensures
