use Rattle.std.proofs.Common.{◌≡◌, ◌/◌, ◌++◌, ap, List, drop, length, take, subst, rules, arith}
use Rattle.std.specs.List.Sorted.{IsPermutation}
use Rattle.std.proofs.lemmas.List.Sorted.{IsNonDecreasingBy-from_all_adjacent, IsNonDecreasingBy-from_sort_by_key, IsPermutation-trans, length_permutation}
use Rattle.unit_plan.specs.declared.piece.Piece.{Piece}
use Rattle.unit_plan.specs.Rising.{RiseBetween}
use Rattle.unit_plan.proofs.InOrder.{whole_taken}
use Rattle.unit_plan.proofs.RisingLemmas.{one_row}
use Rattle.unit_plan.proofs.sorting.sort_by_start.Goals as goal

pub returns-then-strays-eq0-clause-rising : goal.returns-then-strays-eq0-clause-rising
returns-then-strays-eq0-clause-rising c =
    let ps = c.args.pieces.now.items in
    let first = c.rise_from-first.result in
    let middle = c.len-middle.result / 2 in
    let last = c.rise_to-end.result in
    let up : RiseBetween ps first middle = subst (λ (qs : List Piece). RiseBetween qs first middle) c.as_slice.ensures.value c.rise_from-first.ensures.rises in
    let on : RiseBetween ps middle last = subst (λ (qs : List Piece). RiseBetween qs middle last) c.as_slice-2.ensures.value c.rise_to-end.ensures.rises in
    let none = c.if-strays-eq0.true in
    let all = c.len.ensures in
    let low = c.rise_from-first.ensures.within in
    let high = c.rise_to-end.ensures.within in
    let long = c.as_slice-2.ensures.len in
    let whole = ap length c.as_slice-2.ensures.value in
    IsNonDecreasingBy-from_all_adjacent (λ (p : Piece). p.run.start) ps
    (λ k d lt. one_row ps first middle last up on k d (omega (arith, none, all, low, high.0, high.1, long)) (omega (arith, none, all, low, high.0, high.1, long, whole, lt)))

pub returns-clause-kept : goal.returns-clause-kept
returns-clause-kept c =
    let ps = c.args.pieces.now.items in
    let qs = c.gather.new.pieces in
    let all = c.as_mut_slice.ensures.len in
    let long = length_permutation c.as_mut_slice.result.now qs c.gather.ensures in
    let near : IsPermutation ps qs = subst (λ (xs : List Piece). IsPermutation xs qs) c.as_mut_slice.ensures.value c.gather.ensures in
    let whole : take c.args.pieces.now.len (qs ++ drop (length qs) ps) ≡ qs = whole_taken c.args.pieces.now.len qs (drop (length qs) ps) (omega (arith, long, all)) in
    IsPermutation-trans ps qs c.sort_unstable_by_key.new.self.items near
    (subst (λ (xs : List Piece). IsPermutation xs c.sort_unstable_by_key.new.self.items) whole c.sort_unstable_by_key.ensures.permutation)

pub returns-clause-rising : goal.returns-clause-rising
returns-clause-rising c = IsNonDecreasingBy-from_sort_by_key (λ (p : Piece). p.run.start) c.sort_unstable_by_key.new.self.items c.sort_unstable_by_key.ensures.sorted (λ a r q k. search rules)
