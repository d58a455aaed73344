use Rattle.std.proofs.Common.{◌≡◌, ◌+◌, ◌++◌, length}
use Rattle.inode_scan.specs.Cursor.{AllInoTrees}
use Rattle.core_parts.specs.Opens.Inodes.{are_trees}
use Rattle.core_parts.proofs.opens.inodes.ino_trees.Given as goal

-- those so far, with those of the groups that are left, are all
abbrev pub invariant-loop-kept : goal.invariant-loop-kept
invariant-loop-kept l = record {
  left : l.trees.items ++ are_trees l.g l.rest ≡ are_trees 0 l.groups;
  inside : AllInoTrees (length l.groups) l.trees.items;
  here : l.g + length l.rest ≡ length l.groups;
  long : length l.trees.items ≡ l.g;
}

abbrev pub decreases-loop-kept : goal.decreases-loop-kept
decreases-loop-kept l = length l.rest
