use Rattle.std.proofs.Common.{◌≡◌}
use Rattle.sblock.specs.Area.{area_of}
use Rattle.sblock.specs.Lists.{items_from}
use Rattle.sblock.specs.Spans.{span_of}
use Rattle.tree_defs.specs.Tree.{with_recs}
use Rattle.tree_walk.specs.Trails.{trail_of}
use Rattle.tree_walk.proofs.leaf.take_leaf.Given as goal

abbrev pub invariant-loop-i : goal.invariant-loop-i
invariant-loop-i g l = record {
  trail : trail_of l.seen ≡ with_recs (trail_of l.initial.seen) (items_from (g.K.RecKind.form.record_at (area_of l.block.bytes)) l.i 0);
  span : l.span ≡ span_of g.K.RecKind.form (items_from (g.K.RecKind.form.record_at (area_of l.block.bytes)) l.i 0);
  blocks : l.seen.blocks.items ≡ l.initial.seen.blocks.items;
}
