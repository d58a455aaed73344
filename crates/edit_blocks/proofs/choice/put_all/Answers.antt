use Rattle.std.proofs.Common.{◌++◌, ◌∙◌, List, ℕ, ap, sym}
use Rattle.ag_headers.specs.Ring.{entries}
use Rattle.edit_blocks.proofs.ChoiceLemmas.{has_room}
use Rattle.edit_blocks.proofs.choice.put_all.Goals as goal

pub put_last-requires : goal.put_last-requires
put_last-requires c =
    let list = entries c.loop-block.list in
    has_room list (entries c.args.list.now) c.args.blocks.now c.in-Some.later.now c.in-Some.block.now 119
    (ap (λ (ys : List ℕ). list ++ ys) (sym c.in-Some.ensures.cases.0) ∙ c.loop-block.invariant.list) c.requires.room
