use Rattle.std.proofs.Common.{◌⊎◌, ◌∙◌, ℕ, ap}
use Rattle.std.proofs.lemmas.List.{length-map}
use Rattle.tree_defs.specs.Lists.{In}
use Rattle.byte_fields.specs.declared.block.Block.{Block}
use Rattle.join_blocks.specs.Joins.{placed_in}
use Rattle.draft_check.proofs.ListLemmas.{one_more, none_left}
use Rattle.draft_check.proofs.blocks.are_theirs.Goals as goal

pub loop-block-preserved : goal.loop-block-preserved
loop-block-preserved c = one_more (λ b. In b c.args.before.now ⊎ In b c.args.taken.now) c.in-Some.field-0-0.now.0 (placed_in c.in-Some.later.now) (placed_in c.loop-block.rest.now) (placed_in c.args.placed.now) (ap placed_in c.in-Some.ensures.cases.0) (c.is_theirs.ensures c.if-not-is_theirs.false) c.loop-block.invariant

pub returns : goal.returns
returns c = λ _. none_left (λ b. In b c.args.before.now ⊎ In b c.args.taken.now) (placed_in c.loop-block.rest.now) (placed_in c.args.placed.now) (length-map c.loop-block.rest.now (λ (e : ℕ × Block). e.0) ∙ c.in_default.ensures.cases) c.loop-block.invariant
