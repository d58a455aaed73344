-- What an edit is told of: a tree, a transaction, a free list and limbo, before and after.
use Rattle.std.specs.Prelude.{◌≡◌, ℕ, Bool, true, Option}
use Rattle.std.specs.declared.vec.Vec.{Vec}
use Rattle.std.specs.declared.alloc.Global.{Global}
use Rattle.blk_device.specs.Contents.{Contents}
use Rattle.ag_headers.specs.Ring.{FreeRing}
use Rattle.meta_txn.specs.Joined.{Joined}
use Rattle.sblock.specs.Form.{Form}
use Rattle.tree_defs.specs.declared.site.Site.{Site}
use Rattle.tree_blocks.specs.declared.tree.TreeAt.{TreeAt}
use Rattle.list_edit.specs.declared.edits.Edit.{Edit}
use Rattle.tree_edit.specs.Prepared.{held}
use Rattle.edit_place.specs.Changed.{IsChanged, IsSettled, ReadsWhole}

module _ {R K : Type 0} (form : Form R K) (site : Site) (how : Edit) (rec : R) (told : Option Contents) (tree : TreeAt) (txn : Joined) (list : FreeRing) (limbo : Vec ℕ Global) where
  -- the tree, the transaction, the list and limbo are edited
  abbrev pub Changes : TreeAt → Joined → FreeRing → Vec ℕ Global → Type 0
  Changes tree' txn' list' limbo' = IsChanged form site how rec tree.lsn told (held tree txn list limbo.items) (held tree' txn' list' limbo'.items)

  -- so it is where the tree is readable
  abbrev pub ChangesReadable : TreeAt → Joined → FreeRing → Vec ℕ Global → Type 0
  ChangesReadable tree' txn' list' limbo' = ReadsWhole form site told (held tree txn list limbo.items) → Changes tree' txn' list' limbo'

  -- so it is where the tree is readable, if that is what the caller knows
  abbrev pub ChangesIf : Bool → TreeAt → Joined → FreeRing → Vec ℕ Global → Type 0
  ChangesIf known tree' txn' list' limbo' = (known ≡ true → ReadsWhole form site told (held tree txn list limbo.items)) → Changes tree' txn' list' limbo'

-- the list, limbo and what is joined are settled
abbrev pub Settles : TreeAt → Joined → FreeRing → Vec ℕ Global → TreeAt → Joined → FreeRing → Vec ℕ Global → Type 0
Settles tree txn list limbo tree' txn' list' limbo' = IsSettled (held tree txn list limbo.items) (held tree' txn' list' limbo'.items)
