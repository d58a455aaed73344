use Rattle.std.proofs.Common.{◌≡◌, true, false, subst}
use Rattle.tree_defs.specs.declared.site.Site.{Site}
use Rattle.edit_place.specs.Calls.{Changes}
use Rattle.edit_place.proofs.DeviceLemmas.{read_then_left}
use Rattle.edit_place.proofs.edits.edit.Goals as goal

pub returns-then-done-clause-edited : goal.returns-then-done-clause-edited
returns-then-done-clause-edited g c =
    let a = c.args in
    let new = c.in_place.new in
    subst (λ (s : Site). Changes g.K.RecKind.form s a.how a.rec (g.D.Device.content a.dev.now) a.tree.now a.txn.now a.list.now a.limbo.now new.tree new.txn new.list new.limbo) c.of_group-site.ensures.exact
    (c.in_ok-done.ensures.edited c.if-done.true (λ h. let z : false ≡ true = h in absurd cc))

pub returns-clause-left : goal.returns-clause-left
returns-clause-left g c =
    let met = g.met.D.Device in
    read_then_left g.D.Device met.only_now met.counts_now c.args.dev.now c.in_place.new.dev c.anew.new.dev c.args.steps.now c.in_place.new.steps c.anew.new.steps c.in_place.ensures.reading c.anew.ensures.left
