use Rattle.std.proofs.Common.{◌≡◌, length, sym, ◌∙◌, arith}
use Rattle.std.proofs.lemmas.Bool.{eqb-true, eq-eqb, true≢false}
use Rattle.std.proofs.lemmas.Result.{IfOk-weaker}
use Rattle.run_sets.specs.Runs.{most}
use Rattle.run_sets.specs.Sets.{has}
use Rattle.tree_claims.proofs.ListLemmas.{lists_empty, lists_single, single_below, front_below, rest_below, parts_joined}
use Rattle.tree_claims.proofs.listed.+set_of.Goals as goal

pub returns-then-is_empty-clause-exact : goal.returns-then-is_empty-clause-exact
returns-then-is_empty-clause-exact t c =
    let none : length c.args.blocks.now ≡ 0 = eqb-true (length c.args.blocks.now) 0 (sym c.is_empty.ensures ∙ c.if-is_empty.true) in
    IfOk-weaker c.empty_set.result _ _ (λ set empty b. empty b ∙ sym (lists_empty c.args.blocks.now none b)) c.empty_set.ensures.empty

pub one_block-requires : goal.one_block-requires
one_block-requires t c = record { low = single_below c.args.blocks.now 0 most c.if-blocks-eq1.true c.requires.low }

pub returns-then-blocks-eq1-clause-exact : goal.returns-then-blocks-eq1-clause-exact
returns-then-blocks-eq1-clause-exact t c =
    IfOk-weaker c.one_block.result _ _ (λ set is b. is b ∙ sym (lists_single c.args.blocks.now 0 c.if-blocks-eq1.true b)) c.one_block.ensures.exact

pub set_of-requires : goal.set_of-requires
set_of-requires t c =
    let some : length c.args.blocks.now ≡ 0 → ⊥ = λ none. absurd (true≢false (sym (c.is_empty.ensures ∙ eq-eqb (length c.args.blocks.now) 0 none) ∙ c.if-is_empty.false)) in (
      omega (arith, some, c.decreases, c.if-blocks-eq1.false, c.split_at.ensures.front_len),
      front_below c.args.blocks.now c.split_at.result.0.now c.split_at.result.1.now most c.split_at.ensures.by_index.0 c.requires.low,
    )

pub set_of-requires-2 : goal.set_of-requires-2
set_of-requires-2 t c =
    let some : length c.args.blocks.now ≡ 0 → ⊥ = λ none. absurd (true≢false (sym (c.is_empty.ensures ∙ eq-eqb (length c.args.blocks.now) 0 none) ∙ c.if-is_empty.false)) in (
      omega (arith, some, c.decreases, c.if-blocks-eq1.false, c.split_at.ensures.front_len, c.split_at.ensures.back_len),
      rest_below c.args.blocks.now c.split_at.result.0.now c.split_at.result.1.now most c.split_at.ensures.by_index.0 c.requires.low,
    )

pub returns-clause-exact : goal.returns-clause-exact
returns-clause-exact t c =
    IfOk-weaker c.joined.result _ _
    (λ set both. parts_joined c.args.blocks.now c.split_at.result.0.now c.split_at.result.1.now (has c.in_ok-front.front) (has c.in_ok-rest.rest) (has set) c.split_at.ensures.by_index.0 c.in_ok-front.ensures.exact c.in_ok-rest.ensures.exact both)
    c.joined.ensures.exact
