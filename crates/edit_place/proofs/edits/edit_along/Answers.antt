use Rattle.std.proofs.Common.{rules, subst}
use Rattle.std.specs.Prelude.{OnOk}
use Rattle.geom.specs.Places.{layout}
use Rattle.tree_defs.specs.Sites.{site_of}
use Rattle.tree_defs.specs.declared.site.Site.{Site}
use Rattle.tree_edit.specs.Prepared.{held}
use Rattle.tree_edit.proofs.BlockLemmas.{on_ok}
use Rattle.edit_place.specs.Calls.{Changes}
use Rattle.edit_place.specs.Changed.{ReadsWhole}
use Rattle.edit_place.proofs.DeviceLemmas.{read_then_left}
use Rattle.edit_place.proofs.edits.edit_along.Goals as goal

pub returns-then-done-clause-edited : goal.returns-then-done-clause-edited
returns-then-done-clause-edited g c =
    let a = c.args in
    let new = c.in_place.new in
    let form = g.K.RecKind.form in
    let told = g.D.Device.content a.dev.now in
    subst (λ (s : Site). ReadsWhole form s told (held a.tree.now a.txn.now a.list.now a.limbo.now.items) → Changes form s a.how a.rec told a.tree.now a.txn.now a.list.now a.limbo.now new.tree new.txn new.list new.limbo) c.of_group-site.ensures.exact
    (λ reads. c.in_ok-done.ensures.edited c.if-done.true (λ known. reads))

pub returns-clause-edited : goal.returns-clause-edited
returns-clause-edited g c =
    let a = c.args in
    let new = c.anew.new in
    let edited : OnOk c.anew.result (Changes g.K.RecKind.form (site_of (layout a.geo.now) a.tree.now.group) a.how a.rec (g.D.Device.content a.dev.now) a.tree.now a.txn.now a.list.now a.limbo.now new.tree new.txn new.list new.limbo) = search rules in
    on_ok c.anew.result (λ edit reads. edit) edited

pub returns-clause-settled : goal.returns-clause-settled
returns-clause-settled g c =
    let a = c.args in
    let new = c.anew.new in
    let form = g.K.RecKind.form in
    let site = site_of (layout a.geo.now) a.tree.now.group in
    let told = g.D.Device.content a.dev.now in
    let edited : OnOk c.anew.result (Changes form site a.how a.rec told a.tree.now a.txn.now a.list.now a.limbo.now new.tree new.txn new.list new.limbo) = search rules in
    on_ok c.anew.result (λ edit. edit.settled) edited

pub returns-clause-left : goal.returns-clause-left
returns-clause-left g c =
    let met = g.met.D.Device in
    read_then_left g.D.Device met.only_now met.counts_now c.args.dev.now c.in_place.new.dev c.anew.new.dev c.args.steps.now c.in_place.new.steps c.anew.new.steps c.in_place.ensures.reading c.anew.ensures.left
