use Rattle.std.proofs.Common.{sym, subst}
use Rattle.std.specs.Prelude.{OnOk}
use Rattle.geom.specs.Places.{layout}
use Rattle.list_edit.specs.declared.edits.Edit.{Edit}
use Rattle.list_edit.specs.declared.edits.Edit.TheVariants.{Insert, Remove, Change}
use Rattle.tree_defs.specs.Sites.{site_of}
use Rattle.tree_edit.specs.Prepared.{held}
use Rattle.tree_edit.proofs.BlockLemmas.{on_ok}
use Rattle.edit_place.specs.Calls.{Changes}
use Rattle.edit_place.proofs.AnewLemmas.{anew_is_changed}
use Rattle.edit_place.proofs.anew.anew.Goals as goal

pub returns-in-Insert-clause-edited : goal.returns-in-Insert-clause-edited
returns-in-Insert-clause-edited g c =
    let form = g.K.RecKind.form in
    let told = g.D.Device.content c.args.dev.now in
    let tree = c.args.tree.now in
    let site = site_of (layout c.args.geo.now) tree.group in
    let new = c.insert.new in
    subst (λ (how : Edit). OnOk c.insert.result (Changes form site how c.args.rec told tree c.args.txn.now c.args.list.now c.args.limbo.now new.tree new.txn new.list new.limbo)) (sym c.in-Insert.is)
    (on_ok c.insert.result (anew_is_changed form site Insert c.args.rec tree.lsn told (held tree c.args.txn.now c.args.list.now c.args.limbo.now.items) (held new.tree new.txn new.list new.limbo.items)) c.insert.ensures.edited)

pub returns-in-Remove-clause-edited : goal.returns-in-Remove-clause-edited
returns-in-Remove-clause-edited g c =
    let form = g.K.RecKind.form in
    let told = g.D.Device.content c.args.dev.now in
    let tree = c.args.tree.now in
    let site = site_of (layout c.args.geo.now) tree.group in
    let new = c.remove.new in
    subst (λ (how : Edit). OnOk c.remove.result (Changes form site how c.args.rec told tree c.args.txn.now c.args.list.now c.args.limbo.now new.tree new.txn new.list new.limbo)) (sym c.in-Remove.is)
    (on_ok c.remove.result (anew_is_changed form site Remove c.args.rec tree.lsn told (held tree c.args.txn.now c.args.list.now c.args.limbo.now.items) (held new.tree new.txn new.list new.limbo.items)) c.remove.ensures.edited)

pub returns-in-Change-clause-edited : goal.returns-in-Change-clause-edited
returns-in-Change-clause-edited g c =
    let form = g.K.RecKind.form in
    let told = g.D.Device.content c.args.dev.now in
    let tree = c.args.tree.now in
    let site = site_of (layout c.args.geo.now) tree.group in
    let new = c.change.new in
    subst (λ (how : Edit). OnOk c.change.result (Changes form site how c.args.rec told tree c.args.txn.now c.args.list.now c.args.limbo.now new.tree new.txn new.list new.limbo)) (sym c.in-Change.is)
    (on_ok c.change.result (anew_is_changed form site Change c.args.rec tree.lsn told (held tree c.args.txn.now c.args.list.now c.args.limbo.now.items) (held new.tree new.txn new.list new.limbo.items)) c.change.ensures.edited)
