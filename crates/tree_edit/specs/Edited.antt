-- What an edit of a tree does, and why it is refused.
use Rattle.std.specs.Prelude.{◌≡◌, ⊤, ◌+◌, ◌<◌, ◌≤◌, ◌⊎◌, ℕ, true, List, ◌++◌, length, All, Option, Some, IfSome, Ok}
use Rattle.byte_fields.specs.Fields.{field}
use Rattle.byte_fields.specs.Steps.{StepCount}
use Rattle.blk_device.specs.Contents.{Contents}
use Rattle.blk_device.specs.declared.device.Region.TheVariants.{Image}
use Rattle.meta_txn.specs.Joined.{Joined, bytes_at, written}
use Rattle.redo_area.specs.declared.TheConstants.{MAX_BATCH}
use Rattle.sblock.specs.Form.{Form}
use Rattle.tree_defs.specs.Lists.{In, times}
use Rattle.tree_defs.specs.declared.site.Site.{Site}
use Rattle.tree_blocks.specs.declared.tree.TreeAt.{TreeAt}
use Rattle.edit_blocks.specs.Choice.{need_of, for_list, for_limbo}
use Rattle.join_blocks.specs.Joins.{is_joined, count_of}
use Rattle.list_edit.specs.Edits.{edited}
use Rattle.list_edit.specs.declared.edits.Edit.{Edit}
use Rattle.tree_edit.specs.Anew.{AreChosen}
use Rattle.tree_edit.specs.Plans.{HasSize}
use Rattle.tree_edit.specs.Prepared.{Held, ReadsTo, RefusesPrepared}
use Rattle.tree_edit.specs.declared.fault.EditFault.{EditFault}
use Rattle.tree_edit.specs.declared.fault.EditFault.TheVariants.{Bad, Missing, Overlap, Short, TooLarge, Failed, Memory}

-- a tree of the same kind and group, with the same log sequence number
pub record IsSameTree (old new : TreeAt) : Type 0 where
  pub kind : new.kind ≡ old.kind
  pub group : new.group ≡ old.group
  pub lsn : new.lsn ≡ old.lsn

-- the block at this number is joined, and has this log sequence number
abbrev pub IsStamped : ℕ → ℕ → Joined → Type 0
IsStamped lsn at txn = (bytes : List ℕ) × (bytes_at at txn.blocks ≡ Some bytes) × (field 8 bytes 24 ≡ lsn)

module _ {R K : Type 0} (form : Form R K) (site : Site) where
  -- after a device failed: blocks of the tree and the list's first ones may be joined, and no others
  pub record IsWithin (told : Option Contents) (old : Held) (new : Joined) : Type 0 where
    pub recs : List R
    pub before : List ℕ
    pub taken : List ℕ
    pub kept : List ℕ
    pub was : IfSome told (λ c. ReadsTo form site c old recs before)
    pub front : old.listed ≡ taken ++ kept
    pub others : (at : ℕ) → ((b : ℕ) → In b before ⊎ In b taken → site.first + b ≡ at → ⊥) → bytes_at at new.blocks ≡ bytes_at at old.joined.blocks
    pub marked : new.marked ≡ old.joined.marked

module _ {R K : Type 0} (form : Form R K) (site : Site) (how : Edit) (rec : R) where
  -- The tree is that of the edited list. Its blocks are those that it had and the list's first ones, less those that
  -- went to the list's end or to limbo, and only these blocks are changed in the transaction.
  pub record IsEdited (lsn : ℕ) (told : Option Contents) (old new : Held) : Type 0 where
    -- the records before and after, the tree's blocks before and after, those taken from the list, and those left over
    pub recs : List R
    pub records : List R
    pub before : List ℕ
    pub after : List ℕ
    pub taken : List ℕ
    pub kept : List ℕ
    pub left : List ℕ
    pub edits : edited form how rec recs ≡ Ok records
    pub was : IfSome told (λ c. ReadsTo form site c old recs before)
    pub is : IfSome told (λ c. All (λ r. form.is_written r ≡ true) records → (blocks : List ℕ) × ReadsTo form site c new records blocks × ((b : ℕ) → times b blocks ≡ times b after))
    pub front : old.listed ≡ taken ++ kept
    pub size : HasSize form.kind (length records) new.levels (length after)
    pub need : length taken ≡ need_of (length before) (length after)
    pub list : new.listed ≡ kept ++ for_list kept left
    pub limbo : new.limbo ≡ old.limbo ++ for_limbo kept left
    pub once : (b : ℕ) → times b after + times b left ≡ times b before + times b taken
    pub others : (at : ℕ) → ((b : ℕ) → In b before ⊎ In b taken → site.first + b ≡ at → ⊥) → bytes_at at new.joined.blocks ≡ bytes_at at old.joined.blocks
    pub marked : new.joined.marked ≡ old.joined.marked
    -- each of the tree's blocks before and afterwards is joined, so that many at most are freed, and no other one
    pub joined : (b : ℕ) → In b after ⊎ In b left → is_joined new.joined.blocks (site.first + b) ≡ true
    pub count : length new.joined.blocks ≡ count_of old.joined.blocks site.first (after ++ left)
    -- a block of the tree that was another one's, or has other bytes than before, has the tree's log sequence number
    pub stamped : (b : ℕ) → In b after → IsStamped lsn (site.first + b) new.joined ⊎ (In b before × IfSome told (λ c. written (c Image) new.joined (site.first + b) ≡ written (c Image) old.joined (site.first + b)))
    -- a block that is left over has the bytes that it had
    pub left_stays : (b : ℕ) → In b left → IfSome told (λ c. written (c Image) new.joined (site.first + b) ≡ written (c Image) old.joined (site.first + b))
    pub room : count_of old.joined.blocks site.first (after ++ left) ≤ MAX_BATCH

  -- What is counted while a tree is written anew: each of its blocks is read once, each that wasn't joined once more
  -- when it is, and each block of the new shape is counted as written.
  pub record IsCounted (told : Option Contents) (old : Held) (new : Joined) (before after : StepCount) : Type 0 where
    pub recs : List R
    pub records : List R
    pub blocks : List ℕ
    pub edits : edited form how rec recs ≡ Ok records
    pub was : IfSome told (λ c. ReadsTo form site c old recs blocks)
    pub levels : ℕ
    pub many : ℕ
    pub size : HasSize form.kind (length records) levels many
    pub reads : after.reads + length old.joined.blocks ≡ before.reads + length blocks + length new.blocks
    pub writes : after.writes ≡ before.writes + many
    pub moves : after.moves ≡ before.moves

  -- the transaction would have so many blocks, more than a batch has
  abbrev pub IsTooLarge : Contents → Held → ℕ → Type 0
  IsTooLarge c h n = (recs records : List R) × (blocks claimed left : List ℕ) × (levels : ℕ) × ReadsTo form site c h recs blocks × (edited form how rec recs ≡ Ok records) × HasSize form.kind (length records) levels (length claimed) × AreChosen blocks h.listed claimed left × (n ≡ count_of h.joined.blocks site.first (claimed ++ left)) × (MAX_BATCH < n)

  abbrev pub RefusesEdit : Option Contents → Held → EditFault → Type 0
  RefusesEdit told h (TooLarge n) = IfSome told (λ c. IsTooLarge c h n)
  RefusesEdit told h (Bad block fault) = RefusesPrepared form site how rec told h (Bad block fault)
  RefusesEdit told h Missing = RefusesPrepared form site how rec told h Missing
  RefusesEdit told h Overlap = RefusesPrepared form site how rec told h Overlap
  RefusesEdit told h (Short have need) = RefusesPrepared form site how rec told h (Short have need)
  RefusesEdit told h Failed = ⊤
  RefusesEdit told h Memory = ⊤
