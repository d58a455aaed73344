use Rattle.std.proofs.Common.{subst, Ok, Err}
use Rattle.std.proofs.lemmas.Result.{err_from_is_err_and}
use Rattle.blk_device.specs.Reading.{EachBlock}
use Rattle.blk_device.specs.ReadingLaws.{keeps_self}
use Rattle.geom.specs.Places.{layout}
use Rattle.meta_txn.specs.Joined.{Joined}
use Rattle.tree_defs.specs.Sites.{site_of}
use Rattle.tree_edit.specs.declared.fault.EditFault.TheVariants.{Memory}
use Rattle.tree_edit.specs.Faults.{joined_as}
use Rattle.test_three_trees.specs.Given.{AreChanged}
use Rattle.test_three_trees.proofs.GiveLemmas.{not_given, is_given}
use Rattle.test_three_trees.proofs.give.give_run.Goals as goal

pub returns-in_err-txn : goal.returns-in_err-txn
returns-in_err-txn g c =
    let d = g.D.Device in
    let met = g.met.D.Device in
    let site = site_of (layout c.args.geo.now) c.args.bno.now.group in
    let p = err_from_is_err_and c.from_residual.result c.from_residual.ensures.1 in
    record { given = rw (p.1, p.2) (not_given d met.only_now met.counts_now site c.args.bno.now c.args.cnt.now c.args.rmap.now c.args.list.now c.args.dev.now c.args.dev.now Memory (keeps_self d met.only_now met.counts_now EachBlock c.args.dev.now)) }

pub returns-in_err-change_trees : goal.returns-in_err-change_trees
returns-in_err-change_trees g c =
    let d = g.D.Device in
    let met = g.met.D.Device in
    let site = site_of (layout c.args.geo.now) c.args.bno.now.group in
    let p = err_from_is_err_and c.from_residual-in_err-change_trees.result c.from_residual-in_err-change_trees.ensures.1 in
    record { given = rw (p.1, p.2) (not_given d met.only_now met.counts_now site c.args.bno.now c.args.cnt.now c.args.rmap.now c.args.list.now c.args.dev.now c.change_trees.new.dev c.in_err-change_trees.field-0.0 c.change_trees.ensures.left.crash) }

pub returns : goal.returns
returns g c =
    let d = g.D.Device in
    let met = g.met.D.Device in
    let site = site_of (layout c.args.geo.now) c.args.bno.now.group in
    let left = c.change_trees.ensures.left in
    let txn = c.change_trees.new.txn in
    let changed = subst (λ (t : Joined). AreChanged site c.args.run c.args.owned (d.content c.args.dev.now) c.args.bno.now c.args.cnt.now c.args.rmap.now t c.args.list.now txn) c.in_ok-txn.ensures.empty c.in_ok-change_trees.ensures.changed in
    record { given = is_given d met.only_now met.counts_now site c.args.bno.now c.args.cnt.now c.args.rmap.now c.args.list.now c.args.run c.args.owned txn c.args.dev.now c.change_trees.new.dev c.commit.new.dev (Ok tt) left.crash left.same left.sizes changed c.commit.ensures.any_moment c.in_ok-commit.ensures.image }

pub returns-in_err-commit : goal.returns-in_err-commit
returns-in_err-commit g c =
    let d = g.D.Device in
    let met = g.met.D.Device in
    let site = site_of (layout c.args.geo.now) c.args.bno.now.group in
    let left = c.change_trees.ensures.left in
    let txn = c.change_trees.new.txn in
    let changed = subst (λ (t : Joined). AreChanged site c.args.run c.args.owned (d.content c.args.dev.now) c.args.bno.now c.args.cnt.now c.args.rmap.now t c.args.list.now txn) c.in_ok-txn.ensures.empty c.in_ok-change_trees.ensures.changed in
    let p = err_from_is_err_and c.from_residual-in_err-commit.result c.from_residual-in_err-commit.ensures.1 in
    record { given = rw (p.1, p.2) (is_given d met.only_now met.counts_now site c.args.bno.now c.args.cnt.now c.args.rmap.now c.args.list.now c.args.run c.args.owned txn c.args.dev.now c.change_trees.new.dev c.commit.new.dev (Err (joined_as c.in_err-commit.field-0.0)) left.crash left.same left.sizes changed c.commit.ensures.any_moment tt) }
