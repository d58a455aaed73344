use Rattle.std.proofs.Common.{◌≡◌, ◌++◌, ℕ, take, ap, ◌∙◌, arith}
use Rattle.ag_headers.specs.Ring.{entries}
use Rattle.edit_blocks.proofs.ChoiceLemmas.{all_chosen}
use Rattle.edit_blocks.proofs.choice.choose.Goals as goal

pub returns : goal.returns
returns c =
    let blocks = c.args.blocks.now in
    let listed = entries c.args.list.now in
    let done : c.loop-i.i ≡ c.args.need = omega (arith, c.loop-i-test.false, c.loop-i.auto.i-end) in
    all_chosen blocks listed c.loop-i.claimed.items c.args.after c.min-kept.result c.args.need c.min-kept.ensures c.requires.needed
    (c.loop-i.invariant ∙ ap (λ (n : ℕ). take c.min-kept.result blocks ++ take n listed) done)
