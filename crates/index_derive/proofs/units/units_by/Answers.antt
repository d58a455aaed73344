use Rattle.std.proofs.Common.{◌≡◌, ℕ, ◌∙◌, ap, sym, subst}
use Rattle.std.proofs.lemmas.Result.{IfOk-weaker}
use Rattle.run_sets.specs.Runs.{EndWithin, holds, most}
use Rattle.index_derive.specs.Runs.{StartsRise}
use Rattle.index_derive.proofs.UnitLemmas.{found_end, found_holds, sorted_rise}
use Rattle.index_derive.proofs.units.units_by.Goals as goal

pub joined_runs-requires-clause-rising : goal.joined_runs-requires-clause-rising
joined_runs-requires-clause-rising c = subst (StartsRise 0) (sym c.as_slice.ensures.value) (sorted_rise c.in_ok-found.found.items c.in_ok-found.ensures.rising)

pub joined_runs-requires-clause-ends : goal.joined_runs-requires-clause-ends
joined_runs-requires-clause-ends c = subst (EndWithin most) (sym c.as_slice.ensures.value) (found_end c.args.units c.args.ino.now c.args.blocks.now c.in_ok-found.found.items c.requires c.in_ok-found.ensures.found)

pub returns-clause-exact : goal.returns-clause-exact
returns-clause-exact c = IfOk-weaker c.joined_runs.result (λ found. (u : ℕ) → holds found.items u ≡ holds c.as_slice.result.now u) _
    (λ found same u. same u ∙ ap (λ rs. holds rs u) c.as_slice.ensures.value ∙ found_holds c.args.units c.args.ino.now c.args.blocks.now c.in_ok-found.found.items u c.in_ok-found.ensures.found) c.joined_runs.ensures.exact
