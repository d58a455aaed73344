use Rattle.std.proofs.Common.{◌≡◌, ◌-◌, ℕ, suc, Some, subst, arith}
use Rattle.way_check.specs.Way.{block_span}
use Rattle.way_check.proofs.span.span_of_block.Goals as goal

pub returns : goal.returns
returns g c = λ s h.
    let tall : suc (c.args.level - 1) ≡ c.args.level = omega (arith, c.if-level-eq0.false) in
    subst (λ (l : ℕ). block_span g.K.RecKind.form l c.args.block.now.bytes ≡ Some s) tall (c.span_of_node.ensures (c.args.level - 1) s h)
