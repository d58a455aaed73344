use Rattle.std.proofs.Common.{◌∙◌}
use Rattle.geom.specs.Places.{layout}
use Rattle.span_recs.specs.Spans.{cnt_form}
use Rattle.rmap_recs.specs.Rmap.{rmap_form}
use Rattle.tree_defs.specs.Sites.{site_of}
use Rattle.list_edit.specs.declared.edits.Edit.TheVariants.{Insert, Remove}
use Rattle.tree_edit.specs.Prepared.{held}
use Rattle.test_three_trees.proofs.ChangeLemmas.{left_then, edit_at, are_changed, on_ok}
use Rattle.test_three_trees.proofs.change.change_trees.Goals as goal

pub returns-in_err-remove-2-clause-left : goal.returns-in_err-remove-2-clause-left
returns-in_err-remove-2-clause-left g c =
    let met = g.met.D.Device in
    left_then g.D.Device met.only_now met.counts_now c.args.dev.now c.remove.new.dev c.remove-2.new.dev c.args.steps.now c.remove.new.steps c.remove-2.new.steps c.remove.ensures.left c.remove-2.ensures.left

pub returns-clause-left : goal.returns-clause-left
returns-clause-left g c =
    let met = g.met.D.Device in
    left_then g.D.Device met.only_now met.counts_now c.args.dev.now c.remove-2.new.dev c.insert.new.dev c.args.steps.now c.remove-2.new.steps c.insert.new.steps
    (left_then g.D.Device met.only_now met.counts_now c.args.dev.now c.remove.new.dev c.remove-2.new.dev c.args.steps.now c.remove.new.steps c.remove-2.new.steps c.remove.ensures.left c.remove-2.ensures.left)
    c.insert.ensures.left

pub returns-clause-changed : goal.returns-clause-changed
returns-clause-changed g c =
    let told = g.D.Device.content c.args.dev.now in
    let told1 = g.D.Device.content c.remove.new.dev in
    let told2 = g.D.Device.content c.remove-2.new.dev in
    let at = layout c.args.geo.now in
    let group = c.args.bno.now.group in
    let bno = c.args.bno.now in
    let cnt = c.args.cnt.now in
    let rmap = c.args.rmap.now in
    let one = c.remove.new in
    let two = c.remove-2.new in
    let last = c.insert.new in
    let first = held one.tree one.txn one.list one.limbo.items in
    let second = held two.tree two.txn two.list two.limbo.items in
    let third = held last.tree last.txn last.list last.limbo.items in
    let by_count = edit_at cnt_form at Remove c.args.run cnt.lsn cnt.group group told1 told (held cnt one.txn one.list one.limbo.items) second c.requires.groups.0 c.remove.ensures.left.same c.in_ok-remove-2.ensures.edited in
    on_ok c.insert.result
    (λ done. are_changed (site_of at group) c.args.run c.args.owned told bno cnt rmap c.args.txn.now c.args.list.now c.args.limbo.now.items first second third one.limbo.items two.limbo.items c.in_ok-remove.ensures.edited by_count
    (edit_at rmap_form at Insert c.args.owned rmap.lsn rmap.group group told2 told (held rmap two.txn two.list two.limbo.items) third c.requires.groups.1 (c.remove-2.ensures.left.same ∙ c.remove.ensures.left.same) done))
    c.insert.ensures.edited
