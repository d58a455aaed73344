use Rattle.std.proofs.Common.{rules, ◌≤◌}
use Rattle.std.proofs.lemmas.Result.{IfOk-weaker}
use Rattle.sblock.specs.Headers.{no_block}
use Rattle.way_check.proofs.WalkLemmas.{made_is}
use Rattle.way_check.proofs.walk.is_made.Goals as goal

pub returns-clause-made : goal.returns-clause-made
returns-clause-made g c =
    let a = c.args in
    let some : 1 ≤ a.tree.now.levels = search rules in
    let short : a.ask.now.site.bounds.length ≤ no_block = search rules in
    IfOk-weaker c.is_way.result _ _ (λ y way yes.
    made_is g.K.RecKind.form a.ask.now a.tree.now (g.B.Blocks.told a.blocks.now) a.draft.now c.deref.result.now c.deref.ensures.value (c.is_still.ensures c.if-not-is_still.false) some short (c.is_plain.ensures c.if-not-is_plain.false) (c.may_stand.ensures c.if-not-may_stand.false) (way yes))
    c.is_way.ensures.way
