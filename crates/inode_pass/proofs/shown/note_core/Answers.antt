use Rattle.std.proofs.Common.{◌∙◌}
use Rattle.geom.specs.Places.{layout}
use Rattle.inode_pass.proofs.NoteLemmas.{attr_unshown, both_shown, data_unshown}
use Rattle.inode_pass.proofs.shown.note_core.Goals as goal

pub returns-then-not-branch : goal.returns-then-not-branch
returns-then-not-branch c =
    let file = rw c.if-not-branch.true at c.in_ok-note_fork.ensures in
    data_unshown (layout c.args.geo.now) c.args.core.now c.args.notes.now.items c.note_fork.new.notes.items file

pub returns-then-not-branch-2 : goal.returns-then-not-branch-2
returns-then-not-branch-2 c =
    let file = rw c.if-not-branch.false at c.in_ok-note_fork.ensures in
    let attributes = rw c.if-not-branch-2.true at c.in_ok-note_fork-2.ensures in
    attr_unshown (layout c.args.geo.now) c.args.core.now c.len-before.result c.args.notes.now.items c.note_fork.new.notes.items c.note_fork-2.new.notes.items c.truncate.new.self.items
    (c.len-before.ensures ∙ c.args.notes.now.ok.0) file attributes c.truncate.ensures.items

pub returns : goal.returns
returns c =
    let file = rw c.if-not-branch.false at c.in_ok-note_fork.ensures in
    let attributes = rw c.if-not-branch-2.false at c.in_ok-note_fork-2.ensures in
    both_shown (layout c.args.geo.now) c.args.core.now c.args.notes.now.items c.note_fork.new.notes.items c.note_fork-2.new.notes.items file attributes
