-- The place of a scan among the inodes of all groups, and the next one that it comes to (XFS Online Fsck Design, "Live Inode
-- Scans").
use Rattle.std.specs.Prelude.{◌≡◌, ◌<◌, ℕ, ◌+◌, ◌-◌, ◌*◌, ◌^◌, nat_le, nat_lt, Bool, if◌then◌else◌, List, [], ◌∷◌, Option, Some, None, Ok, Err}
use Rattle.geom.specs.Layout.{Layout, group_len_of}
use Rattle.sblock.specs.declared.kind.Kind.TheVariants.{Ino}
use Rattle.tree_blocks.specs.declared.tree.TreeAt.{TreeAt}
use Rattle.tree_defs.specs.Sites.{site_of, group_blocks}
use Rattle.inode_scan.specs.Search.{Search, then_next, search_in, reads_in, then_reads}

-- the cursor is the greatest number that was passed
abbrev pub is_visited : ℕ → ℕ → Bool
is_visited at ino = nat_le ino at

-- the number of a group's first inode, and how many numbers a group's blocks have
unfoldable pub first_number : Layout → ℕ → ℕ
first_number at g = g * 2 ^ at.agblklog * 8

abbrev pub numbers_in : Layout → ℕ → ℕ
numbers_in at g = group_len_of at g * 8

-- the lowest number above the cursor, relative to a group that begins with this inode, where that is below the end
unfoldable pub start_in : ℕ → ℕ → ℕ → Option ℕ
start_in c first end = if nat_lt ((c + 1) - first) end then Some ((c + 1) - first) else None

-- a number of the group as an inode number
abbrev pub numbered : ℕ → Search → Search
numbered first (Err fault) = Err fault
numbered first (Ok None) = Ok None
numbered first (Ok (Some n)) = Ok (Some (first + n))

abbrev pub from_start : ℕ → (ℕ → Search) → Option ℕ → Search
from_start first search None = Ok None
from_start first search (Some from) = numbered first (search from)

abbrev pub reads_from : (ℕ → ℕ) → Option ℕ → ℕ
reads_from reads None = 0
reads_from reads (Some from) = reads from

module _ (at : Layout) (image : ℕ → List ℕ) (c : ℕ) where
  -- the next inode of one group; where the cursor has passed all of it, nothing is read
  unfoldable pub next_in_tree : TreeAt → Search
  next_in_tree t =
      from_start (first_number at t.group) (λ from. search_in (site_of at t.group) (group_blocks (site_of at t.group) image) from (numbers_in at t.group) t.root t.levels) (start_in c (first_number at t.group) (numbers_in at t.group))

  -- and how many blocks are read for it
  unfoldable pub reads_in_tree : TreeAt → ℕ
  reads_in_tree t =
      reads_from (λ from. reads_in (site_of at t.group) (group_blocks (site_of at t.group) image) from (numbers_in at t.group) t.root t.levels) (start_in c (first_number at t.group) (numbers_in at t.group))

  -- the next one of all groups, in their order
  unfoldable pub next_in_trees : List TreeAt → Search
  next_in_trees [] = Ok None
  next_in_trees (t ∷ ts) = then_next (next_in_tree t) (next_in_trees ts)

  unfoldable pub reads_in_trees : List TreeAt → ℕ
  reads_in_trees [] = 0
  reads_in_trees (t ∷ ts) = then_reads (next_in_tree t) (reads_in_tree t) (reads_in_trees ts)

-- an inode btree of a group that there is
pub record IsInoTree (agcount : ℕ) (t : TreeAt) : Type 0 where
  pub kind : t.kind ≡ Ino
  pub group : t.group < agcount

abbrev pub AllInoTrees : ℕ → List TreeAt → Type 0
AllInoTrees agcount [] = Unit {0}
AllInoTrees agcount (t ∷ ts) = IsInoTree agcount t × AllInoTrees agcount ts
