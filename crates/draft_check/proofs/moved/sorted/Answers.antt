use Rattle.std.proofs.Common.{◌≡◌, ◌++◌, ◌∙◌, ap, List, ℕ, subst}
use Rattle.std.specs.List.Sorted.{IsPermutation}
use Rattle.draft_check.proofs.ListLemmas.{times_both}
use Rattle.draft_check.proofs.moved.sorted.Goals as goal

pub returns : goal.returns
returns c =
    let front = c.args.front.now in
    let back = c.args.back.now in
    let all : c.extend_from_slice-2.new.self.items ≡ front ++ back =
    c.in_ok-extend_from_slice-2.ensures.items
    ∙ ap (λ (l : List ℕ). l ++ back) (c.in_ok-extend_from_slice.ensures.items ∙ ap (λ (l : List ℕ). l ++ front) c.new-both.ensures.items) in
    times_both front back c.sort_unstable.new.self.items (subst (λ (l : List ℕ). IsPermutation l c.sort_unstable.new.self.items) all c.sort_unstable.ensures.permutation)
