-- A tree that was written anew: its blocks are joined, and those that it leaves are joined as they were found.
use Rattle.std.specs.Prelude.{◌≡◌, ◌≤◌, ◌-◌, ◌+◌, ◌⊎◌, ℕ, true, List, [], length, slice_index, All, Some, Ok, Option}
use Rattle.byte_fields.specs.declared.block.Block.{Block}
use Rattle.blk_device.specs.Contents.{Contents}
use Rattle.blk_device.specs.declared.device.Region.TheVariants.{Image}
use Rattle.redo_area.specs.Area.{Batch}
use Rattle.meta_txn.specs.Joined.{Joined, bytes_at, written}
use Rattle.sblock.specs.Blocks.{AllSupported}
use Rattle.sblock.specs.Form.{Form}
use Rattle.sblock.specs.Headers.{no_block}
use Rattle.tree_defs.specs.Lists.{In, times, AllDiffer}
use Rattle.tree_defs.specs.Sites.{group_blocks}
use Rattle.tree_defs.specs.Tree.{read_tree}
use Rattle.tree_defs.specs.declared.site.Site.{Site}
use Rattle.bulk_load.specs.Loaded.{IsLoaded}
use Rattle.bulk_load.specs.Shapes.{IsShape}
use Rattle.load_trees.specs.Fit.{frame_of, IsFit}
use Rattle.edit_blocks.specs.Choice.{chosen, taken, freed}
use Rattle.join_blocks.specs.Joins.{with_all, AreFound}

-- the last of these blocks, which is a new tree's root
abbrev pub root_of : List ℕ → ℕ
root_of claimed = slice_index claimed (length claimed - 1)

-- the blocks of a tree before and those of the list, the blocks for the tree afterwards, and those that are left over
pub record AreChosen (before listed claimed left : List ℕ) : Type 0 where
  pub first : claimed ≡ chosen before listed (length claimed)
  pub rest : left ≡ freed before (length claimed)

-- the new blocks are put in, and those that are left over joined as they are
abbrev pub AreJoined : Option Contents → ℕ → List (ℕ × Block) → List ℕ → Batch → Batch → Type 0
AreJoined told first placed left old new = AreFound told first left (with_all first placed old) new

module _ {R K : Type 0} (form : Form R K) where
  -- these blocks, each with the block that it is for, are a tree of these records
  pub record IsMade (site : Site) (lsn levels : ℕ) (recs : List R) (claimed : List ℕ) (placed : List (ℕ × Block)) : Type 0 where
    pub shape : IsShape form.kind (length recs) levels (length claimed)
    pub fit : IsFit form site recs claimed
    pub loaded : IsLoaded form recs claimed (frame_of site lsn) 0 (length claimed) [] placed

  -- Through the transaction the tree is read with exactly these records, and has exactly these blocks.
  abbrev pub JoinedIsRead : Type 0
  JoinedIsRead = (site : Site) (lsn levels : ℕ) (recs : List R) (before listed claimed left : List ℕ) (placed : List (ℕ × Block)) (c : Contents) (old new : Joined) → site.bounds.length ≤ no_block → AllDiffer before → AreChosen before listed claimed left
      → IsMade site lsn levels recs claimed placed → AllSupported form recs → All (λ r. form.is_written r ≡ true) recs → AreJoined (Some c) site.first placed left old.blocks new.blocks
      → (after : List ℕ) × (read_tree form site (group_blocks site (written (c Image) new)) (root_of claimed) levels ≡ Ok (recs, after)) × ((b : ℕ) → times b after ≡ times b claimed)

  -- Only blocks of the tree before and of the list are joined, and of the list the first ones.
  abbrev pub OthersStay : Type 0
  OthersStay = (site : Site) (lsn levels : ℕ) (recs : List R) (before listed claimed left : List ℕ) (placed : List (ℕ × Block)) (told : Option Contents) (old new : Batch) → AreChosen before listed claimed left → IsMade site lsn levels recs claimed placed
      → AreJoined told site.first placed left old new → (at : ℕ) → ((b : ℕ) → In b before ⊎ In b (taken before listed (length claimed)) → site.first + b ≡ at → ⊥) → bytes_at at new ≡ bytes_at at old
