use Rattle.std.proofs.Common.{◌≡◌, true, sym, subst}
use Rattle.std.specs.Prelude.{OnOk, OnErr, IfErr}
use Rattle.list_edit.specs.declared.edits.Edit.TheVariants.{Change}
use Rattle.tree_defs.specs.declared.site.Site.{Site}
use Rattle.tree_edit.specs.Calls.{Edits, Counts, Refuses, Stopped, StopsAt}
use Rattle.tree_edit.proofs.edits.change.Goals as goal

pub rewrite-requires-clause-given : goal.rewrite-requires-clause-given
rewrite-requires-clause-given g c =
    let form = g.K.RecKind.form in
    let e = c.of_group-site.ensures.exact in
    λ put. (subst (λ (s : Site). form.is_in_range s.bounds c.args.rec ≡ true) (sym e) c.requires.inside, c.requires.supported)

pub returns-clause-edited : goal.returns-clause-edited
returns-clause-edited g c =
    let told = g.D.Device.content c.args.dev.now in
    let new = c.rewrite.new in
    subst (λ (s : Site). OnOk c.rewrite.result (Edits g.K.RecKind.form s Change c.args.rec told c.args.tree.now c.args.txn.now c.args.list.now c.args.limbo.now new.tree new.txn new.list new.limbo))
    c.of_group-site.ensures.exact c.rewrite.ensures.edit

pub returns-clause-counted : goal.returns-clause-counted
returns-clause-counted g c =
    let told = g.D.Device.content c.args.dev.now in
    subst (λ (s : Site). OnOk c.rewrite.result (Counts g.K.RecKind.form s Change c.args.rec told c.args.tree.now c.args.txn.now c.rewrite.new.txn c.args.steps.now c.rewrite.new.steps))
    c.of_group-site.ensures.exact c.rewrite.ensures.counted

pub returns-clause-refused : goal.returns-clause-refused
returns-clause-refused g c =
    let told = g.D.Device.content c.args.dev.now in
    subst (λ (s : Site). IfErr c.rewrite.result (Refuses g.K.RecKind.form s Change c.args.rec told c.args.tree.now c.args.txn.now c.args.list.now c.args.limbo.now))
    c.of_group-site.ensures.exact c.rewrite.ensures.refused

pub returns-clause-stops : goal.returns-clause-stops
returns-clause-stops g c =
    let told = g.D.Device.content c.args.dev.now in
    subst (λ (s : Site). OnErr c.rewrite.result (StopsAt g.K.RecKind.form s told c.args.tree.now c.args.txn.now c.args.list.now c.rewrite.new.txn))
    c.of_group-site.ensures.exact c.rewrite.ensures.stops

pub returns-clause-ticks : goal.returns-clause-ticks
returns-clause-ticks g c =
    let told = g.D.Device.content c.args.dev.now in
    subst (λ (s : Site). IfErr c.rewrite.result (Stopped g.K.RecKind.form s Change c.args.rec told c.args.tree.now c.args.txn.now c.args.steps.now c.rewrite.new.steps))
    c.of_group-site.ensures.exact c.rewrite.ensures.ticks
