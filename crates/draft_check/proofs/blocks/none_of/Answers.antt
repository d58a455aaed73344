use Rattle.join_blocks.specs.Joins.{placed_in}
use Rattle.tree_defs.specs.Lists.{In}
use Rattle.draft_check.proofs.ListLemmas.{one_more, none_left, stands_not}
use Rattle.std.proofs.Common.{sym, ◌∙◌}
use Rattle.draft_check.proofs.blocks.none_of.Goals as goal

pub loop-block-preserved : goal.loop-block-preserved
loop-block-preserved c = one_more (λ b. In b (placed_in c.args.placed.now) → ⊥) c.in-Some.block.now c.in-Some.later.now c.loop-block.rest.now c.args.left.now c.in-Some.ensures.cases.0 (stands_not c.in-Some.block.now (placed_in c.args.placed.now) (sym c.is_made.ensures ∙ c.if-is_made.false)) c.loop-block.invariant

pub returns : goal.returns
returns c = λ _. none_left (λ b. In b (placed_in c.args.placed.now) → ⊥) c.loop-block.rest.now c.args.left.now c.in_default.ensures.cases c.loop-block.invariant
