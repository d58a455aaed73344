use Rattle.std.proofs.Common.{List, ◌++◌, ◌∙◌, subst, rules}
use Rattle.std.specs.List.Sorted.{IsPermutation}
use Rattle.std.proofs.lemmas.List.Sorted.{IsNonDecreasingBy-from_sort_by_key}
use Rattle.run_sets.specs.declared.run.Run.{Run}
use Rattle.index_derive.proofs.units.found_units.Goals as goal

pub returns-clause-found : goal.returns-clause-found
returns-clause-found c =
    let whole = c.as_slice.ensures.value ∙ c.in_ok-whole.ensures in
    let listed = c.in_ok-found.ensures in
    subst (λ (xs : List Run). IsPermutation xs c.sort_unstable_by_key.new.self.items) (c.in_ok-extend_from_slice.ensures.items ∙ (λ i. listed i ++ whole i)) c.sort_unstable_by_key.ensures.permutation

pub returns-clause-rising : goal.returns-clause-rising
returns-clause-rising c = IsNonDecreasingBy-from_sort_by_key (λ (r : Run). r.start) c.sort_unstable_by_key.new.self.items c.sort_unstable_by_key.ensures.sorted (λ a r q k. search rules)
