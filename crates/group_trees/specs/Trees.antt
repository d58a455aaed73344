-- What is read of a group's btree: its records and blocks, or its first fault and the blocks that it still claims.
use Rattle.std.specs.Prelude.{◌≡◌, ◌<◌, ◌^◌, ⊤, ℕ, List, length, Result, Ok, Err}
use Rattle.fs_state.specs.Kinds.{Image, heads_of, level_of, root_of}
use Rattle.fs_state.specs.Read.{Read}
use Rattle.fs_state.specs.State.{Reading, Readable, Unreadable}
use Rattle.geom.specs.Layout.{Layout}
use Rattle.inode_pass.specs.declared.stop.PassStop.{PassStop}
use Rattle.group_trees.specs.declared.reads.TreeSeen.{TreeSeen}
use Rattle.group_trees.specs.declared.reads.TreeSeen.TheVariants as seen
use Rattle.group_trees.specs.declared.reads.Walked.{Walked}
use Rattle.group_trees.specs.declared.reads.Walked.TheVariants as walks
use Rattle.sblock.specs.Blocks.{IsRising}
use Rattle.sblock.specs.Form.{Form}
use Rattle.sblock.specs.declared.block.Bounds.{Bounds}
use Rattle.tree_blocks.specs.declared.tree.TreeAt.{TreeAt}
use Rattle.tree_defs.specs.Claims.{claims_of}
use Rattle.tree_defs.specs.Sites.{site_of, group_blocks}
use Rattle.tree_defs.specs.Tree.{read_tree}
use Rattle.tree_walk.specs.Trails.{AreSound, LieInside}

module _ {R K : Type 0} (form : Form R K) (at : Layout) (image : Image) (g root levels : ℕ) where
  -- what a walk from this root reads
  unfoldable pub tree_walked : Read R
  tree_walked = read_tree form (site_of at g) (group_blocks (site_of at g) image) root levels

  -- the blocks that the tree claims, readable or not
  unfoldable pub tree_claimed : List ℕ
  tree_claimed = claims_of form (site_of at g) (group_blocks (site_of at g) image) root levels

-- a tree that can't be read has its first fault, and these claims
abbrev pub read_as : {R : Type 0} → Read R → List ℕ → Reading R
read_as (Ok read) claims = Readable read.0 read.1
read_as (Err fault) claims = Unreadable fault.0 fault.1 claims

-- these are the claims of this tree
abbrev pub AreClaimsAt : {R K : Type 0} (form : Form R K) (at : Layout) (image : Image) (tree : TreeAt) → List ℕ → Type 0
AreClaimsAt form at image tree claims = claims ≡ tree_claimed form at image tree.group tree.root tree.levels

-- what is read of the tree from this root on
abbrev pub tree_in : {R K : Type 0} (form : Form R K) (at : Layout) (image : Image) (g root levels : ℕ) → Reading R
tree_in form at image g root levels = read_as (tree_walked form at image g root levels) (tree_claimed form at image g root levels)

-- what the code has of it
abbrev pub reading_of : {R : Type 0} → TreeSeen R → Reading R
reading_of (seen.Whole read) = Readable read.recs.items read.blocks.items
reading_of (seen.Bad block fault claims) = Unreadable block fault claims.items

-- it is what is read of the tree at this root
abbrev pub IsTreeAt : {R K : Type 0} (form : Form R K) (at : Layout) (image : Image) (tree : TreeAt) → TreeSeen R → Type 0
IsTreeAt form at image tree seen = reading_of seen ≡ tree_in form at image tree.group tree.root tree.levels

-- the records of a tree that was read rise, each of a supported form and in range
abbrev pub IsSound : {R K : Type 0} → Form R K → Bounds → TreeSeen R → Type 0
IsSound form bounds (seen.Whole read) = AreSound form bounds read.recs.items
IsSound form bounds (seen.Bad block fault claims) = ⊤

abbrev pub RisesIfRead : {R K : Type 0} → Form R K → TreeSeen R → Type 0
RisesIfRead form (seen.Whole read) = IsRising form read.recs.items
RisesIfRead form (seen.Bad block fault claims) = ⊤

-- a tree that can be read has so few blocks that heads can count them
abbrev pub FewBlocks : {R : Type 0} → Reading R → Type 0
FewBlocks (Readable recs blocks) = length blocks < 2 ^ 32
FewBlocks (Unreadable block fault claims) = ⊤

-- ---- a walk by itself

abbrev pub walk_of : {R : Type 0} → Walked R → Read R
walk_of (walks.Whole read) = Ok (read.recs.items, read.blocks.items)
walk_of (walks.Bad block fault) = Err (block, fault)

-- the tree reads as this, or the device failed or there was no memory
abbrev pub IsRead : {R : Type 0} → Read R → Result (Walked R) PassStop → Type 0
IsRead read (Ok walked) = read ≡ walk_of walked
IsRead read (Err stop) = ⊤

abbrev pub IsSoundRead : {R K : Type 0} → Form R K → Bounds → Walked R → Type 0
IsSoundRead form bounds (walks.Whole read) = AreSound form bounds read.recs.items
IsSoundRead form bounds (walks.Bad block fault) = ⊤

-- the blocks that were walked are the group's
abbrev pub IsInsideRead : {R : Type 0} → ℕ → Walked R → Type 0
IsInsideRead len (walks.Whole read) = LieInside len read.blocks.items
IsInsideRead len (walks.Bad block fault) = ⊤

-- it has fewer blocks than its group
abbrev pub IsFewRead : {R : Type 0} → ℕ → Walked R → Type 0
IsFewRead len (walks.Whole read) = length read.blocks.items < len
IsFewRead len (walks.Bad block fault) = ⊤

-- no tree was read
abbrev pub IsBad : {R : Type 0} → Walked R → Type 0
IsBad (walks.Whole read) = ⊥
IsBad (walks.Bad block fault) = ⊤

-- what is read of a group's tree of this form, where the heads name it
unfoldable pub tree_by : {R K : Type 0} (form : Form R K) (at : Layout) (image : Image) (g : ℕ) → Reading R
tree_by form at image g = tree_in form at image g (root_of (heads_of at image g) form.kind) (level_of (heads_of at image g) form.kind)
