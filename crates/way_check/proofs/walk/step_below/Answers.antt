use Rattle.way_check.proofs.WalkLemmas.{step_is}
use Rattle.way_check.proofs.walk.step_below.Goals as goal

pub returns : goal.returns
returns g c =
    let found = c.in-Some-split_last in
    step_is g.K.RecKind.form c.args.ask.now c.args.level c.args.old.now.bytes c.args.new.now.bytes c.args.lower.now found.field-0-1.now found.top.now c.in-Some.at c.in-Some.child
    c.in-Some.ensures found.ensures.cases.0 c.if-top-child.false (c.is_node.ensures c.if-not-is_node.false)
