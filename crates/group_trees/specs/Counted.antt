-- How many blocks are read of a group's btrees at most.
use Rattle.std.specs.Prelude.{ℕ, ◌+◌, ◌*◌, ◌≤◌, Ok, Err}
use Rattle.fs_state.specs.Kinds.{Image, heads_of, level_of, root_of}
use Rattle.fs_state.specs.Read.{Read}
use Rattle.geom.specs.Layout.{Layout, group_len_of}
use Rattle.ino_recs.specs.Chunks.{ino_form, fino_form}
use Rattle.group_trees.specs.Trees.{tree_walked}
use Rattle.rmap_recs.specs.Rmap.{rmap_form}
use Rattle.sblock.specs.Form.{Form}
use Rattle.span_recs.specs.Refcounts.{refc_form}
use Rattle.span_recs.specs.Spans.{bno_form, cnt_form}
use Rattle.tree_blocks.specs.declared.tree.TreeAt.{TreeAt}
use Rattle.tree_defs.specs.Sites.{site_of, group_blocks}
use Rattle.tree_defs.specs.Walked.{walked}

-- how many blocks are read besides, to find what a tree claims: none where it was read, else for each of nine levels
-- no more than the group has
abbrev pub claims_most : {R : Type 0} → ℕ → Read R → ℕ
claims_most len (Ok read) = 0
claims_most len (Err fault) = 9 * len

module _ {R K : Type 0} (form : Form R K) (at : Layout) (image : Image) (g : ℕ) where
  -- the blocks that a walk from this root reads, up to its first fault
  unfoldable pub walk_most : (root levels : ℕ) → ℕ
  walk_most root levels = walked form (site_of at g) (group_blocks (site_of at g) image) root levels

  -- those that are read of a tree with this root
  unfoldable pub tree_most : (root levels : ℕ) → ℕ
  tree_most root levels = walk_most root levels + claims_most (group_len_of at g) (tree_walked form at image g root levels)

-- no more than that were read of this tree: by the walk, and by all that is done with it
abbrev pub IsWalkCounted : {R K : Type 0} → Form R K → Layout → Image → TreeAt → (before after : ℕ) → Type 0
IsWalkCounted form at image tree before after = after ≤ before + walk_most form at image tree.group tree.root tree.levels

abbrev pub IsTreeCounted : {R K : Type 0} → Form R K → Layout → Image → TreeAt → (before after : ℕ) → Type 0
IsTreeCounted form at image tree before after = after ≤ before + tree_most form at image tree.group tree.root tree.levels

-- those of the group's tree of this form, where the heads name it
unfoldable pub kind_most : {R K : Type 0} → Form R K → Layout → Image → ℕ → ℕ
kind_most form at image g = tree_most form at image g (root_of (heads_of at image g) form.kind) (level_of (heads_of at image g) form.kind)

-- those of all six trees
unfoldable pub trees_most : Layout → Image → ℕ → ℕ
trees_most at image g =
    kind_most bno_form at image g + kind_most cnt_form at image g + kind_most rmap_form at image g
    + kind_most refc_form at image g + kind_most ino_form at image g + kind_most fino_form at image g
