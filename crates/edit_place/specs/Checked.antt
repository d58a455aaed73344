-- A draft of an edited tree, compared with the edited list and with the blocks that it may have.
use Rattle.std.specs.Prelude.{◌≡◌, ℕ, ◌+◌, ◌≤◌, ◌⊎◌, Bool, true, List, length, take, Option, Result, Ok}
use Rattle.blk_device.specs.Contents.{Contents}
use Rattle.ag_headers.specs.Ring.{FreeRing, entries}
use Rattle.meta_txn.specs.Joined.{Joined}
use Rattle.sblock.specs.Form.{Form}
use Rattle.sblock.specs.declared.block.BlockFault.{BlockFault}
use Rattle.tree_defs.specs.Lists.{In, times}
use Rattle.tree_defs.specs.Tree.{read_tree}
use Rattle.tree_defs.specs.declared.site.Site.{Site}
use Rattle.tree_blocks.specs.Told.{WhereTold}
use Rattle.tree_blocks.specs.declared.tree.TreeAt.{TreeAt}
use Rattle.tree_walk.specs.Trails.{LieInside}
use Rattle.txn_blocks.specs.Through.{changed}
use Rattle.join_blocks.specs.Joins.{placed_in}
use Rattle.list_edit.specs.Edits.{edited}
use Rattle.over_blocks.specs.Over.{over}
use Rattle.over_blocks.specs.declared.draft.Draft.{Draft}
use Rattle.place_plan.specs.declared.ask.Ask.{Ask}
use Rattle.draft_check.specs.Drafts.{AreStamped}
use Rattle.way_check.specs.Checks.{IsMade}

-- The tree's blocks are those that it had and those that it takes, less those that it frees. Those
-- that are made are of these, each that it takes is made and none that it frees, and each has the
-- tree's log sequence number.
pub record HasBlocks (lsn : ℕ) (before taken after : List ℕ) (draft : Draft) : Type 0 where
  pub once : (b : ℕ) → times b after + times b draft.freed.items ≡ times b before + times b taken
  pub own : (b : ℕ) → In b (placed_in draft.placed.items) → In b before ⊎ In b taken
  pub apart : (b : ℕ) → In b draft.freed.items → In b (placed_in draft.placed.items) → ⊥
  pub all : (b : ℕ) → In b taken → In b (placed_in draft.placed.items)
  pub stamped : AreStamped lsn draft.placed.items

-- what the tree that was made reads as, over these blocks of the group
abbrev pub reads_draft : {R K : Type 0} → Form R K → Site → Draft → (ℕ → List ℕ) → Result (List R × List ℕ) (ℕ × BlockFault)
reads_draft form site draft m = read_tree form site (over draft.placed.items m) draft.root draft.levels

-- a draft takes no more than is listed, and each block that it made is one of the group
pub record IsWithin (size : ℕ) (listed : List ℕ) (draft : Draft) : Type 0 where
  pub few : draft.taken ≤ length listed
  pub inside : LieInside size (placed_in draft.placed.items)

module _ {R K : Type 0} (form : Form R K) (ask : Ask R) where
  -- the tree is readable, where its blocks are told
  abbrev pub IsReadable : TreeAt → Option (ℕ → List ℕ) → Type 0
  IsReadable tree told = WhereTold told (λ m. (recs : List R) × (blocks : List ℕ) × (read_tree form ask.site m tree.root tree.levels ≡ Ok (recs, blocks)))

  -- The draft was made along the edit's way alone, of the tree's own blocks.
  pub record IsAlong (tree : TreeAt) (told : Option (ℕ → List ℕ)) (listed : List ℕ) (draft : Draft) : Type 0 where
    pub made : IsMade form ask tree told draft
    pub stamped : AreStamped tree.lsn draft.placed.items
    pub within : IsWithin ask.site.bounds.length listed draft

  -- The tree is read, and the draft, over the same blocks, with the edited list.
  pub record IsChecked (tree : TreeAt) (told : Option (ℕ → List ℕ)) (listed : List ℕ) (draft : Draft) : Type 0 where
    pub recs : List R
    pub records : List R
    pub before : List ℕ
    pub after : List ℕ
    pub edits : edited form ask.how ask.rec recs ≡ Ok records
    pub was : WhereTold told (λ m. read_tree form ask.site m tree.root tree.levels ≡ Ok (recs, before))
    pub is : WhereTold told (λ m. reads_draft form ask.site draft m ≡ Ok (records, after))
    pub few : draft.taken ≤ length listed
    pub has : HasBlocks tree.lsn before (take draft.taken listed) after draft
    pub inside : LieInside ask.site.bounds.length (placed_in draft.placed.items)

  -- so it is where the tree is readable, if that is what the caller knows
  abbrev pub IsCheckedIf : Bool → TreeAt → Option (ℕ → List ℕ) → List ℕ → Draft → Type 0
  IsCheckedIf known tree told listed draft = (known ≡ true → IsReadable tree told) → IsChecked tree told listed draft

  -- the same, of the blocks that are read through a transaction
  abbrev pub Checks : Bool → TreeAt → Joined → Option Contents → FreeRing → Draft → Type 0
  Checks known tree txn told list draft = IsCheckedIf known tree (changed ask.site txn told) (entries list) draft
