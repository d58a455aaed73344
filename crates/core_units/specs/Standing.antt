-- One of a group's btrees as it is gathered, beside the state that the image and what is kept of it stand for.
use Rattle.std.specs.Prelude.{◌≡◌, ⊤, ℕ, Bool, true, false, Option, None, is_ok}
use Rattle.fs_state.specs.Kinds.{Image}
use Rattle.fs_state.specs.Read.{known}
use Rattle.fs_state.specs.State.{Bad, Reading, Unreadable}
use Rattle.geom.specs.Layout.{Layout}
use Rattle.group_trees.specs.Trees.{reading_of, tree_claimed, tree_walked}
use Rattle.group_trees.specs.declared.reads.TreeSeen.{TreeSeen}
use Rattle.group_trees.specs.declared.reads.TreeSeen.TheVariants as seen
use Rattle.sblock.specs.Form.{Form}
use Rattle.tree_defs.specs.Sites.{group_blocks, site_of}
use Rattle.core_units.specs.Front.{GoesOn}
use Rattle.core_units.specs.declared.leaf.Leaf.{Leaf}
use Rattle.core_units.specs.declared.leaf.Leaf.TheVariants as leaves

abbrev pub IsBadTree : {R : Type 0} → TreeSeen R → Type 0
IsBadTree (seen.Whole read) = ⊥
IsBadTree (seen.Bad block fault claims) = ⊤

module _ {R K : Type 0} (form : Form R K) (at : Layout) (image : Image) (g root levels : ℕ) (bad : Option Bad) where
  -- what the state has of the tree: the fault and the claims of the opening, where there are some
  abbrev pub tree_in_state : Reading R
  tree_in_state = known bad (tree_walked form at image g root levels) (tree_claimed form at image g root levels)

  -- a tree that isn't known to be bad can be read
  abbrev pub IsFirm : Type 0
  IsFirm = bad ≡ None → is_ok (tree_walked form at image g root levels) ≡ true

  -- a front of it was read, or it is known to be bad
  abbrev pub IsBegun : TreeSeen R → Type 0
  IsBegun (seen.Whole read) = (bad ≡ None) × GoesOn form (site_of at g) (group_blocks (site_of at g) image) root levels read.recs.items read.blocks.items
  IsBegun (seen.Bad block fault claims) = Unreadable block fault claims.items ≡ tree_in_state

  -- all of it was gathered
  abbrev pub IsGathered : TreeSeen R → Type 0
  IsGathered tree = reading_of tree ≡ tree_in_state

  -- what a step makes of it, which tells whether it was the last
  abbrev pub IsMade : TreeSeen R → Bool → Type 0
  IsMade tree true = IsGathered tree
  IsMade tree false = IsBegun tree

  -- what one leaf more makes of it; none is bad
  abbrev pub IsLeafMade : TreeSeen R → Leaf → Type 0
  IsLeafMade tree leaves.More = IsBegun tree
  IsLeafMade tree leaves.Last = IsGathered tree
  IsLeafMade tree (leaves.Bad block fault) = ⊥
