-- What an edit of a tree does, whether the tree is written anew or the blocks on its way alone.
use Rattle.std.specs.Prelude.{◌≡◌, ℕ, ◌+◌, ◌≤◌, ◌⊎◌, true, List, ◌++◌, length, All, Option, IfSome, Ok}
use Rattle.blk_device.specs.Contents.{Contents}
use Rattle.blk_device.specs.declared.device.Region.TheVariants.{Image}
use Rattle.meta_txn.specs.Joined.{bytes_at, written}
use Rattle.redo_area.specs.declared.TheConstants.{MAX_BATCH}
use Rattle.sblock.specs.Form.{Form}
use Rattle.tree_defs.specs.Lists.{In, times}
use Rattle.tree_defs.specs.declared.site.Site.{Site}
use Rattle.edit_blocks.specs.Choice.{for_list, for_limbo}
use Rattle.join_blocks.specs.Joins.{is_joined}
use Rattle.list_edit.specs.Edits.{edited}
use Rattle.list_edit.specs.declared.edits.Edit.{Edit}
use Rattle.tree_edit.specs.Edited.{IsStamped}
use Rattle.tree_edit.specs.Prepared.{Held, ReadsTo}

-- What every edit does to the list, to limbo and to what is joined, whether its tree was readable or not.
pub record IsSettled (old new : Held) : Type 0 where
  -- the blocks taken from the list, the list without these, and those that are left over
  pub taken : List ℕ
  pub kept : List ℕ
  pub left : List ℕ
  pub front : old.listed ≡ taken ++ kept
  pub list : new.listed ≡ kept ++ for_list kept left
  pub limbo : new.limbo ≡ old.limbo ++ for_limbo kept left
  pub marked : new.joined.marked ≡ old.joined.marked
  -- what was joined is joined still, and all together have room in a batch
  pub stay : (at : ℕ) → is_joined old.joined.blocks at ≡ true → is_joined new.joined.blocks at ≡ true
  pub room : length new.joined.blocks ≤ MAX_BATCH

module _ {R K : Type 0} (form : Form R K) (site : Site) (how : Edit) (rec : R) where
  -- The tree is that of the edited list. Its blocks are those that it had and the list's first ones,
  -- less those that went to the list's end or to limbo, and of the image only these blocks are
  -- changed in the transaction.
  pub record IsChanged (lsn : ℕ) (told : Option Contents) (old new : Held) : Type 0 where
    -- the list, limbo and what is joined, the records before and after, and the tree's blocks before and after
    pub settled : IsSettled old new
    pub recs : List R
    pub records : List R
    pub before : List ℕ
    pub after : List ℕ
    pub edits : edited form how rec recs ≡ Ok records
    pub was : IfSome told (λ c. ReadsTo form site c old recs before)
    pub is : IfSome told (λ c. All (λ r. form.is_written r ≡ true) records → (blocks : List ℕ) × ReadsTo form site c new records blocks × ((b : ℕ) → times b blocks ≡ times b after))
    pub once : (b : ℕ) → times b after + times b settled.left ≡ times b before + times b settled.taken
    pub others : (at : ℕ) → ((b : ℕ) → In b before ⊎ In b settled.taken → site.first + b ≡ at → ⊥) → bytes_at at new.joined.blocks ≡ bytes_at at old.joined.blocks
    -- a block of the tree that was another one's, or has other bytes than before, has the tree's
    -- log sequence number
    pub stamped : (b : ℕ) → In b after → IsStamped lsn (site.first + b) new.joined ⊎ (In b before × IfSome told (λ c. written (c Image) new.joined (site.first + b) ≡ written (c Image) old.joined (site.first + b)))
    -- a block that is left over has the bytes that it had
    pub left_stays : (b : ℕ) → In b settled.left → IfSome told (λ c. written (c Image) new.joined (site.first + b) ≡ written (c Image) old.joined (site.first + b))

-- the tree is readable, where the device tells its content
abbrev pub ReadsWhole : {R K : Type 0} → Form R K → Site → Option Contents → Held → Type 0
ReadsWhole {R} form site told h = IfSome told (λ c. (recs : List R) × (blocks : List ℕ) × ReadsTo form site c h recs blocks)
