use Rattle.std.proofs.Common.{false}
use Rattle.tree_defs.proofs.LoneFacts.{leaf_room}
use Rattle.place_plan.proofs.leaf.is_barred_behind.Goals as goal

pub is_barred_by_first-requires : goal.is_barred_by_first-requires
is_barred_by_first-requires g c = leaf_room g.K.RecKind.form c.args.site.now c.args.seen.now.spot.level false c.right_of-right.result c.in_ok-next.next.bytes c.in_ok-next.ensures.passes c.requires.leaf
