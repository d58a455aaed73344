use Rattle.std.proofs.Common.{List, ◌≡◌, ◌+◌, ◌-◌, ◌<◌, ◌≤◌, ℕ, length, Some, false}
use Rattle.sblock.specs.Area.{child_of}
use Rattle.sblock.specs.Kinds.{node_most_of}
use Rattle.sblock.specs.Lists.{items_from}
use Rattle.tree_defs.specs.Tree.{entry_at, read_children, read_node}
use Rattle.tree_defs.specs.Walked.{walked_children, walked_node}
use Rattle.tree_blocks.specs.Calls.{Reads}
use Rattle.tree_walk.specs.Trails.{trail_of, AreSound, LieInside}
use Rattle.tree_walk.proofs.walker.+walk_node.Given as goal

abbrev pub decreases-walk_node : goal.decreases-walk_node
decreases-walk_node g l = l.level

abbrev pub invariant-loop-i : goal.invariant-loop-i
invariant-loop-i g l = record {
  goes_on : (m : ℕ → List ℕ) → g.B.Blocks.told l.fn.blocks ≡ Some m → read_children g.K.RecKind.form (read_node g.K.RecKind.form l.site m (l.level - 1) false) l.p (items_from (entry_at g.K.RecKind.form l.area) (l.i-end - l.i) l.i) (trail_of l.seen) l.span ≡ read_node g.K.RecKind.form l.site m l.level l.root l.p (trail_of l.fn.seen);
  sound : AreSound g.K.RecKind.form l.site.bounds l.fn.seen.recs.items → AreSound g.K.RecKind.form l.site.bounds l.seen.recs.items;
  lie : LieInside l.site.bounds.length l.fn.seen.blocks.items → LieInside l.site.bounds.length l.seen.blocks.items;
  counted : (m : ℕ → List ℕ) → g.B.Blocks.told l.fn.blocks ≡ Some m → g.B.Blocks.count l.blocks + walked_children g.K.RecKind.form (read_node g.K.RecKind.form l.site m (l.level - 1) false) (walked_node g.K.RecKind.form l.site m (l.level - 1) false) (items_from (entry_at g.K.RecKind.form l.area) (l.i-end - l.i) l.i) (trail_of l.seen) ≡ g.B.Blocks.count l.fn.blocks + walked_node g.K.RecKind.form l.site m l.level l.root l.p (trail_of l.fn.seen);
  reading : Reads g.B.Blocks l.fn.blocks l.blocks;
  calm : g.B.Blocks.faults l.blocks ≡ g.B.Blocks.faults l.fn.blocks;
  room : l.i-end ≤ node_most_of g.K.RecKind.form.kind;
  inside : (k : ℕ) → k < l.i-end → child_of g.K.RecKind.form.kind l.area k < l.site.bounds.length;
  each : g.B.Blocks.count l.blocks + length l.fn.seen.blocks.items ≡ g.B.Blocks.count l.fn.blocks + length l.seen.blocks.items;
}
