use Rattle.std.proofs.Common.{Ok, Some, None, arith, sym, ap, ◌∙◌}
use Rattle.std.proofs.lemmas.Result.{err_from_is_err_and}
use Rattle.blk_device.specs.ReadingLaws.{read_on}
use Rattle.blk_device.specs.declared.device.Region.TheVariants.{Image}
use Rattle.geom.specs.Places.{layout}
use Rattle.tree_blocks.proofs.ReadingLemmas.{told, each_told}
use Rattle.inode_scan.proofs.CursorLemmas.{trees_found, trees_none, trees_fault, no_trees, more_reads, found_reads, no_reads, count_by, count_end}
use Rattle.inode_scan.proofs.NextLaw.{gives_next, all_below}
use Rattle.inode_scan.proofs.cursor.Cursor.next_inode.Goals as goal

pub returns-in-Some-found-clause-exact : goal.returns-in-Some-found-clause-exact
returns-in-Some-found-clause-exact g c =
    told (g.D.Device.content c.args.dev.now) _
    (λ m e. sym (c.loop-tree.invariant.goes_on m e)
    ∙ trees_found (layout c.args.geo.now) (m Image) c.args.self.now.at c.in-Some.tree.now c.loop-tree.rest.now c.in-Some.later.now c.in-Some.ensures.cases.0 c.in-Some-found.ino
    (each_told (g.D.Device.content c.loop-tree.dev) _ m c.in_ok-found.ensures.exact (c.loop-tree.invariant.reading.same ∙ e) ∙ ap Ok c.in-Some-found.is))

pub returns-in-Some-found-clause-reading : goal.returns-in-Some-found-clause-reading
returns-in-Some-found-clause-reading g c =
    read_on g.D.Device g.met.D.Device.only_now g.met.D.Device.counts_now c.args.dev.now c.loop-tree.dev c.next_in_tree.new.dev c.args.steps.now c.loop-tree.steps c.next_in_tree.new.steps c.loop-tree.invariant.reading c.next_in_tree.ensures.reading

pub returns-in_err-found-clause-exact : goal.returns-in_err-found-clause-exact
returns-in_err-found-clause-exact g c =
    told (g.D.Device.content c.args.dev.now) _
    (λ m e. let p = err_from_is_err_and c.from_residual.result c.from_residual.ensures.1 in
    rw (← c.loop-tree.invariant.goes_on m e, p.1, p.2)
    (trees_fault (layout c.args.geo.now) (m Image) c.args.self.now.at c.in-Some.tree.now c.loop-tree.rest.now c.in-Some.later.now c.in-Some.ensures.cases.0 c.in_err-found.field-0.0
    (each_told (g.D.Device.content c.loop-tree.dev) _ m c.in_err-found.ensures.exact (c.loop-tree.invariant.reading.same ∙ e))))

pub returns-in_err-found-clause-reading : goal.returns-in_err-found-clause-reading
returns-in_err-found-clause-reading g c =
    read_on g.D.Device g.met.D.Device.only_now g.met.D.Device.counts_now c.args.dev.now c.loop-tree.dev c.next_in_tree.new.dev c.args.steps.now c.loop-tree.steps c.next_in_tree.new.steps c.loop-tree.invariant.reading c.next_in_tree.ensures.reading

pub loop-tree-preserved : goal.loop-tree-preserved
loop-tree-preserved g c = record {
  goes_on = λ m e. sym (trees_none (layout c.args.geo.now) (m Image) c.args.self.now.at c.in-Some.tree.now c.loop-tree.rest.now c.in-Some.later.now c.in-Some.ensures.cases.0
      (each_told (g.D.Device.content c.loop-tree.dev) _ m c.in_ok-found.ensures.exact (c.loop-tree.invariant.reading.same ∙ e) ∙ ap Ok c.in_default-found.is))
      ∙ c.loop-tree.invariant.goes_on m e;
  counted = λ m e. (
      let told_dev = c.loop-tree.invariant.reading.same ∙ e in
      let all = c.loop-tree.invariant.counted m e in
      let here = more_reads (layout c.args.geo.now) (m Image) c.args.self.now.at c.in-Some.tree.now c.loop-tree.rest.now c.in-Some.later.now c.in-Some.ensures.cases.0 (each_told (g.D.Device.content c.loop-tree.dev) _ m c.in_ok-found.ensures.exact told_dev ∙ ap Ok c.in_default-found.is) in
      let read = each_told (g.D.Device.content c.loop-tree.dev) _ m c.in_ok-found.ensures.counted told_dev in
      omega (arith, all, here, read));
  trees = (rw c.in-Some.ensures.cases.0 at c.loop-tree.invariant.trees).1;
  reading = read_on g.D.Device g.met.D.Device.only_now g.met.D.Device.counts_now c.args.dev.now c.loop-tree.dev c.next_in_tree.new.dev c.args.steps.now c.loop-tree.steps c.next_in_tree.new.steps c.loop-tree.invariant.reading c.next_in_tree.ensures.reading;
  calm = c.in_ok-found.ensures.cause ∙ c.loop-tree.invariant.calm;
  agrees = c.next_in_tree.ensures.agrees;
}

pub returns-clause-exact : goal.returns-clause-exact
returns-clause-exact g c =
    told (g.D.Device.content c.args.dev.now) _
    (λ m e. sym (c.loop-tree.invariant.goes_on m e) ∙ no_trees (layout c.args.geo.now) (m Image) c.args.self.now.at c.loop-tree.rest.now c.in_default.ensures.cases)

pub returns-in-Some-found-clause-counted : goal.returns-in-Some-found-clause-counted
returns-in-Some-found-clause-counted g c =
    told (g.D.Device.content c.args.dev.now) _
    (λ m e. (
    let told_dev = c.loop-tree.invariant.reading.same ∙ e in
    let all = c.loop-tree.invariant.counted m e in
    let here = found_reads (layout c.args.geo.now) (m Image) c.args.self.now.at c.in-Some.tree.now c.loop-tree.rest.now c.in-Some.later.now c.in-Some.ensures.cases.0 c.in-Some-found.ino (each_told (g.D.Device.content c.loop-tree.dev) _ m c.in_ok-found.ensures.exact told_dev ∙ ap Ok c.in-Some-found.is) in
    let read = each_told (g.D.Device.content c.loop-tree.dev) _ m c.in_ok-found.ensures.counted told_dev in
    count_by c.args.steps.now.reads c.loop-tree.steps.reads c.next_in_tree.new.steps.reads _ _ _ all here read))

pub returns-clause-counted : goal.returns-clause-counted
returns-clause-counted g c =
    told (g.D.Device.content c.args.dev.now) _
    (λ m e. count_end c.args.steps.now.reads c.loop-tree.steps.reads _ _ (c.loop-tree.invariant.counted m e) (no_reads (layout c.args.geo.now) (m Image) c.args.self.now.at c.loop-tree.rest.now c.in_default.ensures.cases))

pub returns-in-Some-found-clause-right : goal.returns-in-Some-found-clause-right
returns-in-Some-found-clause-right g c =
    told (g.D.Device.content c.args.dev.now) _
    (λ m e chunks groups readable. gives_next (layout c.args.geo.now) (m Image) chunks c.args.self.now.at c.args.geo.now.fitting c.args.trees.now groups (all_below c.args.geo.now.agcount c.args.trees.now c.requires.trees) (Ok (Some c.in-Some-found.ino))
    (each_told (g.D.Device.content c.args.dev.now) _ m (returns-in-Some-found-clause-exact g c) e) readable)

pub returns-in_err-found-clause-right : goal.returns-in_err-found-clause-right
returns-in_err-found-clause-right g c =
    told (g.D.Device.content c.args.dev.now) _
    (λ m e chunks groups readable. gives_next (layout c.args.geo.now) (m Image) chunks c.args.self.now.at c.args.geo.now.fitting c.args.trees.now groups (all_below c.args.geo.now.agcount c.args.trees.now c.requires.trees) c.from_residual.result
    (each_told (g.D.Device.content c.args.dev.now) _ m (returns-in_err-found-clause-exact g c) e) readable)

pub returns-clause-right : goal.returns-clause-right
returns-clause-right g c =
    told (g.D.Device.content c.args.dev.now) _
    (λ m e chunks groups readable. gives_next (layout c.args.geo.now) (m Image) chunks c.args.self.now.at c.args.geo.now.fitting c.args.trees.now groups (all_below c.args.geo.now.agcount c.args.trees.now c.requires.trees) (Ok None)
    (each_told (g.D.Device.content c.args.dev.now) _ m (returns-clause-exact g c) e) readable)
