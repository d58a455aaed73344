use Rattle.std.proofs.Common.{◌+◌, ℕ, List, subst}
use Rattle.std.specs.List.Sorted.{IsPermutation}
use Rattle.std.proofs.lemmas.List.Sorted.{IsNonDecreasingBy-from_sort}
use Rattle.run_sets.specs.declared.run.Run.{Run}
use Rattle.run_sets.proofs.DepthLemmas.{up_to_places, all_placed}
use Rattle.run_sets.proofs.overlap.sorted_ends.Goals as goal

abbrev place : Run → ℕ
place r = r.start + r.count

pub returns-clause-sorted : goal.returns-clause-sorted
returns-clause-sorted c = IsNonDecreasingBy-from_sort (λ x. x) c.sort.new.self.items c.in_ok-sort.ensures.sorted

pub returns-clause-exact : goal.returns-clause-exact
returns-clause-exact c = λ b.
    let all = all_placed place c.args.runs.now c.loop-run.run-index c.loop-run.ends.items c.loop-run-test.false c.loop-run.invariant in
    up_to_places place c.args.runs.now c.sort.new.self.items b (subst (λ (xs : List ℕ). IsPermutation xs c.sort.new.self.items) all c.in_ok-sort.ensures.permutation)
