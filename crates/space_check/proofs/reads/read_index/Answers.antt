use Rattle.blk_device.specs.declared.device.Region.TheVariants.{Image}
use Rattle.geom.specs.Places.{layout}
use Rattle.tree_defs.specs.Sites.{bounds_of}
use Rattle.tree_blocks.proofs.ReadingLemmas.{each_told}
use Rattle.space_check.proofs.ReadLemmas.{bad_is_sound, whole_read, not_read, whole_counted, fault_counted}
use Rattle.space_check.proofs.reads.read_index.Goals as goal

pub returns-in-Ok-clause-exact : goal.returns-in-Ok-clause-exact
returns-in-Ok-clause-exact g c = λ m e.
    whole_read (layout c.args.geo.now) (m Image) c.args.tree.now.group g.K.RecKind.form c.args.tree.now.root c.args.tree.now.levels c.in-Ok.read (each_told _ _ m c.in-Ok.ensures.exact e)

pub returns-in-Err-clause-exact : goal.returns-in-Err-clause-exact
returns-in-Err-clause-exact g c = λ m e.
    not_read (layout c.args.geo.now) (m Image) c.args.tree.now.group g.K.RecKind.form c.args.tree.now.root c.args.tree.now.levels c.in-Err.fault c.unread.result (each_told _ _ m c.in-Err.ensures.exact e) c.unread.ensures.exact

pub returns-in-Err-clause-sound : goal.returns-in-Err-clause-sound
returns-in-Err-clause-sound g c = bad_is_sound g.K.RecKind.form (bounds_of (layout c.args.geo.now) c.args.tree.now.group) c.unread.result c.unread.ensures.bad

pub returns-in-Err-clause-cause : goal.returns-in-Err-clause-cause
returns-in-Err-clause-cause g c = c.unread.ensures.cause _ _ c.in-Err.ensures.cause

pub returns-in-Ok-clause-counted : goal.returns-in-Ok-clause-counted
returns-in-Ok-clause-counted g c = λ m e.
    whole_counted (layout c.args.geo.now) (m Image) c.args.tree.now.group g.K.RecKind.form c.args.tree.now.root c.args.tree.now.levels _ _ c.in-Ok.read (each_told _ _ m c.in-Ok.ensures.counted e)

pub returns-in-Err-clause-counted : goal.returns-in-Err-clause-counted
returns-in-Err-clause-counted g c = λ m e.
    fault_counted (layout c.args.geo.now) (m Image) c.args.tree.now.group g.K.RecKind.form c.args.tree.now.root c.args.tree.now.levels _ _ c.in-Err.fault c.unread.result (each_told _ _ m c.in-Err.ensures.counted e) c.unread.ensures.counted
