-- The next inode that a scan comes to, over the inode btrees of all groups.
use Rattle.std.specs.Prelude.{◌≡◌, ◌<◌, ◌≤◌, ⊤, ℕ, ◌+◌, nat_lt, List, Contains, Option, Some, None, Result, Ok, Err}
use Rattle.geom.specs.Layout.{Layout}
use Rattle.ino_recs.specs.Chunks.{ino_form}
use Rattle.ino_recs.specs.declared.chunk.InoRec.{InoRec}
use Rattle.sblock.specs.Lists.{Rises}
use Rattle.tree_blocks.specs.declared.tree.TreeAt.{TreeAt}
use Rattle.tree_blocks.specs.declared.tree.WalkFault.{WalkFault}
use Rattle.tree_blocks.specs.declared.tree.WalkFault.TheVariants.{Bad, Failed, Memory}
use Rattle.tree_defs.specs.Sites.{site_of, group_blocks}
use Rattle.tree_find.specs.Laws.{Holds}
use Rattle.inode_scan.specs.Cursor.{first_number, numbers_in}
use Rattle.inode_scan.specs.Least.{IsAllocatedIn}

-- the inode is allocated: the chunks of its group have it, and its block exists
abbrev pub IsAllocated : Layout → (ℕ → List InoRec) → ℕ → Type 0
IsAllocated at chunks i = (g : ℕ) × (n : ℕ) × (g < at.agcount) × (n < numbers_in at g) × IsAllocatedIn (chunks g) n × (first_number at g + n ≡ i)

-- it is the least allocated one above the cursor
pub record IsNext (at : Layout) (chunks : ℕ → List InoRec) (c i : ℕ) : Type 0 where
  pub there : IsAllocated at chunks i
  pub above : c < i
  pub least : (j : ℕ) → IsAllocated at chunks j → c < j → i ≤ j

-- the answer is that inode, or none where there is none, and no fault of a block
abbrev pub GivesNext : Layout → (ℕ → List InoRec) → ℕ → Result (Option ℕ) WalkFault → Type 0
GivesNext at chunks c (Ok None) = (j : ℕ) → IsAllocated at chunks j → c < j → ⊥
GivesNext at chunks c (Ok (Some i)) = IsNext at chunks c i
GivesNext at chunks c (Err (Bad block fault)) = ⊥
GivesNext at chunks c (Err Failed) = ⊤
GivesNext at chunks c (Err Memory) = ⊤

-- the trees are those of all groups, in their order
pub record AreAllGroups (agcount : ℕ) (trees : List TreeAt) : Type 0 where
  pub order : Rises (λ t u. nat_lt t.group u.group) trees
  pub all : (g : ℕ) → g < agcount → (t : TreeAt) × Contains trees t × (t.group ≡ g)

-- each of them is readable, with these chunks
abbrev pub AreReadable : Layout → (ℕ → List ℕ) → (ℕ → List InoRec) → List TreeAt → Type 0
AreReadable at image chunks trees = (t : TreeAt) → Contains trees t → Holds ino_form (site_of at t.group) (group_blocks (site_of at t.group) image) t.root t.levels (chunks t.group)

-- where all groups' btrees are readable, the answer is the least allocated inode above the cursor
abbrev pub IsRightNext : Layout → (ℕ → List ℕ) → ℕ → List TreeAt → Result (Option ℕ) WalkFault → Type 0
IsRightNext at image c trees result =
    (chunks : ℕ → List InoRec) → AreAllGroups at.agcount trees → AreReadable at image chunks trees → GivesNext at chunks c result
