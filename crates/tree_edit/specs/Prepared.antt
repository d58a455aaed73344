-- An edit of a tree before anything is changed.
use Rattle.std.specs.Prelude.{◌≡◌, ⊤, ◌⊎◌, ℕ, ◌+◌, List, length, Option, IfSome, Ok, Err}
use Rattle.byte_fields.specs.Steps.{StepCount}
use Rattle.blk_device.specs.Contents.{Contents}
use Rattle.blk_device.specs.declared.device.Region.TheVariants.{Image}
use Rattle.ag_headers.specs.Ring.{FreeRing, entries}
use Rattle.meta_txn.specs.Joined.{Joined, written}
use Rattle.sblock.specs.Form.{Form}
use Rattle.tree_defs.specs.Sites.{group_blocks}
use Rattle.tree_defs.specs.Tree.{read_tree}
use Rattle.tree_defs.specs.declared.site.Site.{Site}
use Rattle.tree_blocks.specs.declared.tree.TreeAt.{TreeAt}
use Rattle.tree_walk.specs.Trails.{AreSound, LieInside}
use Rattle.list_edit.specs.Edits.{edited}
use Rattle.list_edit.specs.declared.edits.Edit.{Edit}
use Rattle.list_edit.specs.declared.fault.ListFault.TheVariants as list
use Rattle.tree_edit.specs.Making.{IsReady, RefusesMaking}
use Rattle.tree_edit.specs.declared.fault.EditFault.{EditFault}
use Rattle.tree_edit.specs.declared.fault.EditFault.TheVariants.{Bad, Missing, Overlap, Short, TooLarge, Failed, Memory}
use Rattle.tree_edit.specs.declared.make.Made.{Made}

-- what an edit changes: a tree's root and levels, the joined blocks, the free list, and limbo
pub record Held : Type 0 where
  pub root : ℕ
  pub levels : ℕ
  pub joined : Joined
  pub listed : List ℕ
  pub limbo : List ℕ

abbrev pub held : TreeAt → Joined → FreeRing → List ℕ → Held
held tree txn ring limbo = record { root = tree.root; levels = tree.levels; joined = txn; listed = entries ring; limbo = limbo }

module _ {R K : Type 0} (form : Form R K) (site : Site) where
  -- the tree is read through the transaction with these records and blocks
  abbrev pub ReadsTo : Contents → Held → List R → List ℕ → Type 0
  ReadsTo c h recs blocks = read_tree form site (group_blocks site (written (c Image) h.joined)) h.root h.levels ≡ Ok (recs, blocks)

  -- it isn't read, for the fault of a block
  abbrev pub FailsAt : Contents → Held → EditFault → Type 0
  FailsAt c h (Bad block fault) = read_tree form site (group_blocks site (written (c Image) h.joined)) h.root h.levels ≡ Err (block, fault)
  FailsAt c h Missing = ⊥
  FailsAt c h Overlap = ⊥
  FailsAt c h (Short have need) = ⊥
  FailsAt c h (TooLarge n) = ⊥
  FailsAt c h Failed = ⊥
  FailsAt c h Memory = ⊥

  module _ (how : Edit) (rec : R) where
    pub record IsPrepared (lsn : ℕ) (told : Option Contents) (h : Held) (start end : StepCount) (made : Made) : Type 0 where
      pub recs : List R
      pub records : List R
      pub before : List ℕ
      pub was : IfSome told (λ c. ReadsTo c h recs before)
      pub edits : edited form how rec recs ≡ Ok records
      pub sound : AreSound form site.bounds records
      pub lie : LieInside site.bounds.length before
      pub ready : IsReady form site lsn records before h.listed made
      pub reads : end.reads ≡ start.reads + length before
      pub writes : end.writes ≡ start.writes + length made.placed.items
      pub moves : end.moves ≡ start.moves

    -- the tree is read, and its list isn't edited, or its blocks can't be made
    abbrev pub RefusesRead : Contents → Held → EditFault → Type 0
    RefusesRead c h Missing = (recs : List R) × (blocks : List ℕ) × ReadsTo c h recs blocks × (edited form how rec recs ≡ Err list.Missing)
    RefusesRead c h Overlap = (recs : List R) × (blocks : List ℕ) × ReadsTo c h recs blocks × (edited form how rec recs ≡ Err list.Overlap)
    RefusesRead c h (Bad block fault) = (recs records : List R) × (blocks : List ℕ) × ReadsTo c h recs blocks × (edited form how rec recs ≡ Ok records) × RefusesMaking form site.bounds.length (length records) blocks h.listed (Bad block fault)
    RefusesRead c h (Short have need) = (recs records : List R) × (blocks : List ℕ) × ReadsTo c h recs blocks × (edited form how rec recs ≡ Ok records) × RefusesMaking form site.bounds.length (length records) blocks h.listed (Short have need)
    RefusesRead c h (TooLarge n) = ⊥
    RefusesRead c h Failed = ⊥
    RefusesRead c h Memory = ⊥

    -- nothing but a failed device and want of memory has another cause
    abbrev pub RefusesPrepared : Option Contents → Held → EditFault → Type 0
    RefusesPrepared told h Failed = ⊤
    RefusesPrepared told h Memory = ⊤
    RefusesPrepared told h (Bad block fault) = IfSome told (λ c. FailsAt c h (Bad block fault) ⊎ RefusesRead c h (Bad block fault))
    RefusesPrepared told h Missing = IfSome told (λ c. RefusesRead c h Missing)
    RefusesPrepared told h Overlap = IfSome told (λ c. RefusesRead c h Overlap)
    RefusesPrepared told h (Short have need) = IfSome told (λ c. RefusesRead c h (Short have need))
    RefusesPrepared told h (TooLarge n) = ⊥
