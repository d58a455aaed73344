use Rattle.std.proofs.Common.{List, ◌≡◌, ◌+◌, ◌-◌, ◌<◌, ◌≤◌, ℕ, Some, false}
use Rattle.ino_recs.specs.Chunks.{ino_form}
use Rattle.sblock.specs.Area.{area_of, child_of}
use Rattle.sblock.specs.Lists.{items_from}
use Rattle.sblock.specs.declared.kind.Kind.TheVariants.{Ino}
use Rattle.tree_defs.specs.Tree.{entry_at}
use Rattle.tree_blocks.specs.Calls.{Reads}
use Rattle.inode_scan.specs.Search.{among, reads_among, search_below, reads_below}
use Rattle.inode_scan.proofs.search.+search_node.Given as goal

abbrev pub decreases-search_node : goal.decreases-search_node
decreases-search_node g l = l.level

abbrev pub invariant-loop-i : goal.invariant-loop-i
invariant-loop-i g l = record {
  goes_on : (m : ℕ → List ℕ) → g.B.Blocks.told l.fn.blocks ≡ Some m → among (search_below l.site m l.from l.end (l.level - 1) false) (items_from (entry_at ino_form (area_of l.block.bytes)) (l.i-end - l.i) l.i) ≡ search_below l.site m l.from l.end l.level l.root l.p;
  counted : (m : ℕ → List ℕ) → g.B.Blocks.told l.fn.blocks ≡ Some m → g.B.Blocks.count l.blocks + reads_among (search_below l.site m l.from l.end (l.level - 1) false) (reads_below l.site m l.from l.end (l.level - 1)) (items_from (entry_at ino_form (area_of l.block.bytes)) (l.i-end - l.i) l.i) ≡ g.B.Blocks.count l.fn.blocks + reads_below l.site m l.from l.end l.level l.p;
  reading : Reads g.B.Blocks l.fn.blocks l.blocks;
  calm : g.B.Blocks.faults l.blocks ≡ g.B.Blocks.faults l.fn.blocks;
  room : l.i-end ≤ 505;
  inside : (k : ℕ) → k < l.i-end → child_of Ino (area_of l.block.bytes) k < l.site.bounds.length;
}
