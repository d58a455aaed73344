use Rattle.blk_device.specs.declared.device.Region.TheVariants.{Image}
use Rattle.geom.specs.Layout.{group_len_of}
use Rattle.geom.specs.Places.{layout}
use Rattle.tree_blocks.proofs.ReadingLemmas.{each_told}
use Rattle.tree_defs.specs.Sites.{bounds_of}
use Rattle.group_trees.proofs.CountLemmas.{fault_walk, whole_walk}
use Rattle.group_trees.proofs.ReadLemmas.{bad_is_few, bad_is_inside, bad_is_sound, not_read, whole_few, whole_read}
use Rattle.group_trees.proofs.reads.walk_tree.Goals as goal

pub returns-in-Ok-clause-exact : goal.returns-in-Ok-clause-exact
returns-in-Ok-clause-exact g c = λ m e.
    whole_read g.K.RecKind.form (layout c.args.geo.now) (m Image) c.args.tree.now.group c.args.tree.now.root c.args.tree.now.levels c.in-Ok.read (each_told _ _ m c.in-Ok.ensures.exact e)

pub returns-in-Err-clause-exact : goal.returns-in-Err-clause-exact
returns-in-Err-clause-exact g c = λ m e.
    not_read g.K.RecKind.form (layout c.args.geo.now) (m Image) c.args.tree.now.group c.args.tree.now.root c.args.tree.now.levels c.in-Err.fault c.unread.result (each_told _ _ m c.in-Err.ensures.exact e) c.unread.ensures.exact

pub returns-in-Err-clause-sound : goal.returns-in-Err-clause-sound
returns-in-Err-clause-sound g c = bad_is_sound g.K.RecKind.form (bounds_of (layout c.args.geo.now) c.args.tree.now.group) c.unread.result c.unread.ensures.sound

pub returns-in-Err-clause-cause : goal.returns-in-Err-clause-cause
returns-in-Err-clause-cause g c = c.unread.ensures.cause _ _ c.in-Err.ensures.cause

pub returns-in-Err-clause-inside : goal.returns-in-Err-clause-inside
returns-in-Err-clause-inside g c = bad_is_inside (group_len_of (layout c.args.geo.now) c.args.tree.now.group) c.unread.result c.unread.ensures.sound

pub returns-in-Ok-clause-few : goal.returns-in-Ok-clause-few
returns-in-Ok-clause-few g c = λ m e.
    whole_few g.K.RecKind.form (layout c.args.geo.now) (m Image) c.args.tree.now.group c.args.tree.now.root c.args.tree.now.levels c.in-Ok.read g.met.K.RecKind.lawful c.args.geo.now.fitting (each_told _ _ m c.in-Ok.ensures.exact e)

pub returns-in-Err-clause-few : goal.returns-in-Err-clause-few
returns-in-Err-clause-few g c = λ m e. bad_is_few (group_len_of (layout c.args.geo.now) c.args.tree.now.group) c.unread.result c.unread.ensures.sound

pub returns-in-Ok-clause-counted : goal.returns-in-Ok-clause-counted
returns-in-Ok-clause-counted g c = λ m e.
    whole_walk g.K.RecKind.form (layout c.args.geo.now) (m Image) c.args.tree.now.group c.args.tree.now.root c.args.tree.now.levels _ _ (each_told _ _ m c.in-Ok.ensures.counted e)

pub returns-in-Err-clause-counted : goal.returns-in-Err-clause-counted
returns-in-Err-clause-counted g c = λ m e.
    fault_walk g.K.RecKind.form (layout c.args.geo.now) (m Image) c.args.tree.now.group c.args.tree.now.root c.args.tree.now.levels _ _ c.in-Err.fault (each_told _ _ m c.in-Err.ensures.counted e)
