-- A draft that is joined, with the list, limbo and the tree settled.
use Rattle.std.specs.Prelude.{◌≡◌, ℕ, ◌≤◌, List, ◌++◌, length, drop}
use Rattle.std.specs.declared.vec.Vec.{Vec}
use Rattle.std.specs.declared.alloc.Global.{Global}
use Rattle.byte_fields.specs.declared.block.Block.{Block}
use Rattle.ag_headers.specs.Ring.{FreeRing, entries}
use Rattle.meta_txn.specs.Joined.{Joined}
use Rattle.redo_area.specs.declared.TheConstants.{MAX_BATCH}
use Rattle.edit_blocks.specs.Choice.{for_list, for_limbo}
use Rattle.join_blocks.specs.Joins.{count_of, placed_in, with_all}
use Rattle.over_blocks.specs.declared.draft.Draft.{Draft}
use Rattle.tree_blocks.specs.declared.tree.TreeAt.{TreeAt}
use Rattle.tree_edit.specs.Prepared.{Held, held}

-- The draft's blocks are put in; the list's first ones are taken off it, and those that are freed
-- put behind it or into limbo.
pub record IsPlaced (first : ℕ) (draft : Draft) (old new : Held) : Type 0 where
  pub root : new.root ≡ draft.root
  pub levels : new.levels ≡ draft.levels
  pub joined : new.joined.blocks ≡ with_all first draft.placed.items old.joined.blocks
  pub marked : new.joined.marked ≡ old.joined.marked
  pub room : length new.joined.blocks ≤ MAX_BATCH
  pub list : new.listed ≡ drop draft.taken old.listed ++ for_list (drop draft.taken old.listed) draft.freed.items
  pub limbo : new.limbo ≡ old.limbo ++ for_limbo (drop draft.taken old.listed) draft.freed.items

-- the same, of a tree, a transaction, a free list and limbo
abbrev pub Places : ℕ → Draft → TreeAt → Joined → FreeRing → Vec ℕ Global → TreeAt → Joined → FreeRing → Vec ℕ Global → Type 0
Places first draft tree txn list limbo tree' txn' list' limbo' = IsPlaced first draft (held tree txn list limbo.items) (held tree' txn' list' limbo'.items)

-- with these blocks the transaction has no more than a batch has
abbrev pub HaveRoom : Joined → ℕ → List (ℕ × Block) → Type 0
HaveRoom txn first placed = count_of txn.blocks first (placed_in placed) ≤ MAX_BATCH

-- the list without the blocks that the draft takes
abbrev pub untaken : Draft → FreeRing → List ℕ
untaken draft list = drop draft.taken (entries list)

-- the tree, the list and limbo are as they were
pub record StayBut (tree : TreeAt) (list : FreeRing) (limbo : Vec ℕ Global) (tree' : TreeAt) (list' : FreeRing) (limbo' : Vec ℕ Global) : Type 0 where
  pub tree_stays : tree' ≡ tree
  pub list_stays : list' ≡ list
  pub limbo_stays : limbo'.items ≡ limbo.items

-- and so is what is joined
pub record StayAll (tree : TreeAt) (txn : Joined) (list : FreeRing) (limbo : Vec ℕ Global) (tree' : TreeAt) (txn' : Joined) (list' : FreeRing) (limbo' : Vec ℕ Global) : Type 0 where
  pub joined : txn' ≡ txn
  pub rest : StayBut tree list limbo tree' list' limbo'
