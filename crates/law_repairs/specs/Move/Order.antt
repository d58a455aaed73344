-- What always holds of a group's heads, and of the blocks of its metadata.
use Rattle.std.specs.Prelude.{◌≡◌, ℕ, ◌^◌, ◌<◌, true, false, not, length}
use Rattle.std.specs.List.{list_all}
use Rattle.fs_change.specs.Laws.{AreWords}
use Rattle.fs_change.specs.Loose.{pool_of, tree_blocks}
use Rattle.fs_change.specs.Parts.{sick_in}
use Rattle.fs_state.specs.Own.{own}
use Rattle.fs_state.specs.State.{State, Group, is_readable}
use Rattle.rmap_recs.specs.Owners.{is_inode}
use Rattle.rmap_recs.specs.Runs.{AreTuples, HaveNext}
use Rattle.sblock.specs.declared.kind.Kind.{Kind}
use Rattle.tree_defs.specs.Lists.{AllDiffer}
use Rattle.law_repairs.specs.Repair.Owners.{LieInside}

-- Which blocks do the list, the trees and limbo have? Each once, and they are fewer than 2 ^ 32; a tree that can be read has
-- its root.
pub record AreBlocks (p : Group) : Type 0 where
  pub once : AllDiffer (pool_of p)
  pub few : length (pool_of p) < 2 ^ 32
  pub roots : (k : Kind) → is_readable (p.tree k).reading ≡ true → 0 < length (tree_blocks p k)

-- What is known of a group from the beginning? Its counters are words, a tree that can't be read is sick, and its blocks are
-- in order. So are the owners of its blocks: they lie in it, no two of a block differ in the unwritten flag alone, each block
-- has a next number, and those in limbo are no inodes.
pub record IsInOrder (a : State) (g : ℕ) : Type 0 where
  pub words : AreWords (a.group g)
  pub bad : (k : Kind) → is_readable ((a.group g).tree k).reading ≡ false → sick_in (a.group g) k ≡ true
  pub blocks : AreBlocks (a.group g)
  pub inside : LieInside a g
  pub tuples : AreTuples (own a g)
  pub next : HaveNext (own a g)
  pub plain : list_all (λ o. not (is_inode o.owner)) (a.group g).limbo ≡ true
