-- What the three calls are told of: a tree, a transaction, a free list and limbo, before and after.
use Rattle.std.specs.Prelude.{◌≡◌, ◌⊎◌, ℕ, [], Option}
use Rattle.std.specs.declared.vec.Vec.{Vec}
use Rattle.std.specs.declared.alloc.Global.{Global}
use Rattle.byte_fields.specs.Steps.{StepCount}
use Rattle.blk_device.specs.Contents.{Contents}
use Rattle.ag_headers.specs.Ring.{FreeRing}
use Rattle.meta_txn.specs.Joined.{Joined}
use Rattle.geom.specs.Places.{layout}
use Rattle.geom.specs.declared.geometry.Geometry.{Geometry}
use Rattle.sblock.specs.Form.{Form}
use Rattle.tree_defs.specs.Sites.{site_of}
use Rattle.tree_defs.specs.declared.site.Site.{Site}
use Rattle.tree_blocks.specs.declared.tree.TreeAt.{TreeAt}
use Rattle.list_edit.specs.declared.edits.Edit.{Edit}
use Rattle.list_edit.specs.declared.edits.Edit.TheVariants.{Insert, Remove, Change}
use Rattle.tree_edit.specs.Edited.{IsEdited, IsCounted, IsWithin, RefusesEdit}
use Rattle.tree_edit.specs.Prepared.{held, IsPrepared}
use Rattle.tree_edit.specs.Stopped.{CountsRefused}
use Rattle.tree_edit.specs.declared.fault.EditFault.{EditFault}
use Rattle.tree_edit.specs.declared.make.Made.{Made}

module _ {R K : Type 0} (form : Form R K) where
  module _ (site : Site) (how : Edit) (rec : R) (told : Option Contents) (tree : TreeAt) (txn : Joined) where
    -- the tree, the transaction, the list and limbo are edited
    abbrev pub Edits : FreeRing → Vec ℕ Global → TreeAt → Joined → FreeRing → Vec ℕ Global → Type 0
    Edits list limbo tree' txn' list' limbo' = IsEdited form site how rec tree.lsn told (held tree txn list limbo.items) (held tree' txn' list' limbo'.items)

    -- the tree is read, and the blocks of the edited one are made
    abbrev pub Prepares : FreeRing → StepCount → StepCount → Made → Type 0
    Prepares list before after made = IsPrepared form site how rec tree.lsn told (held tree txn list []) before after made

    abbrev pub Refuses : FreeRing → Vec ℕ Global → EditFault → Type 0
    Refuses list limbo fault = RefusesEdit form site how rec told (held tree txn list limbo.items) fault

    abbrev pub Counts : Joined → StepCount → StepCount → Type 0
    Counts txn' before after = IsCounted form site how rec told (record { root = tree.root; levels = tree.levels; joined = txn; listed = []; limbo = [] }) txn' before after

    abbrev pub Stopped : StepCount → StepCount → EditFault → Type 0
    Stopped before after fault = CountsRefused form site how rec told (record { root = tree.root; levels = tree.levels; joined = txn; listed = []; limbo = [] }) before after fault

  -- the transaction is as it was, or has some blocks more of the tree and of the list
  abbrev pub StopsAt : Site → Option Contents → TreeAt → Joined → FreeRing → Joined → Type 0
  StopsAt site told tree txn list txn' = (txn' ≡ txn) ⊎ IsWithin form site told (held tree txn list []) txn'

  module _ (geo : Geometry) (rec : R) (told : Option Contents) (tree : TreeAt) (txn : Joined) where
    abbrev pub Inserts : FreeRing → Vec ℕ Global → TreeAt → Joined → FreeRing → Vec ℕ Global → Type 0
    Inserts = Edits (site_of (layout geo) tree.group) Insert rec told tree txn

    abbrev pub Removes : FreeRing → Vec ℕ Global → TreeAt → Joined → FreeRing → Vec ℕ Global → Type 0
    Removes = Edits (site_of (layout geo) tree.group) Remove rec told tree txn

    abbrev pub Changes : FreeRing → Vec ℕ Global → TreeAt → Joined → FreeRing → Vec ℕ Global → Type 0
    Changes = Edits (site_of (layout geo) tree.group) Change rec told tree txn

    abbrev pub RefusesInsert : FreeRing → Vec ℕ Global → EditFault → Type 0
    RefusesInsert = Refuses (site_of (layout geo) tree.group) Insert rec told tree txn

    abbrev pub RefusesRemove : FreeRing → Vec ℕ Global → EditFault → Type 0
    RefusesRemove = Refuses (site_of (layout geo) tree.group) Remove rec told tree txn

    abbrev pub RefusesChange : FreeRing → Vec ℕ Global → EditFault → Type 0
    RefusesChange = Refuses (site_of (layout geo) tree.group) Change rec told tree txn

    abbrev pub StoppedInsert : StepCount → StepCount → EditFault → Type 0
    StoppedInsert = Stopped (site_of (layout geo) tree.group) Insert rec told tree txn

    abbrev pub CountsInsert : Joined → StepCount → StepCount → Type 0
    CountsInsert = Counts (site_of (layout geo) tree.group) Insert rec told tree txn

    abbrev pub StoppedRemove : StepCount → StepCount → EditFault → Type 0
    StoppedRemove = Stopped (site_of (layout geo) tree.group) Remove rec told tree txn

    abbrev pub CountsRemove : Joined → StepCount → StepCount → Type 0
    CountsRemove = Counts (site_of (layout geo) tree.group) Remove rec told tree txn

    abbrev pub StoppedChange : StepCount → StepCount → EditFault → Type 0
    StoppedChange = Stopped (site_of (layout geo) tree.group) Change rec told tree txn

    abbrev pub CountsChange : Joined → StepCount → StepCount → Type 0
    CountsChange = Counts (site_of (layout geo) tree.group) Change rec told tree txn

  abbrev pub Stops : Geometry → Option Contents → TreeAt → Joined → FreeRing → Joined → Type 0
  Stops geo told tree = StopsAt (site_of (layout geo) tree.group) told tree
