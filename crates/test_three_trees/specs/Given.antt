-- Three trees of a group changed by one transaction, and what becomes of the image.
use Rattle.std.specs.Prelude.{◌≡◌, ◌⊎◌, ◌+◌, ℕ, List, Option, IfSome, Result, Ok, OnOk}
use Rattle.blk_device.specs.Contents.{Contents, Becomes}
use Rattle.blk_device.specs.declared.device.Device.{Ghosts}
use Rattle.blk_device.specs.declared.device.Region.TheVariants.{Image}
use Rattle.ag_headers.specs.Ring.{FreeRing, entries}
use Rattle.redo_area.specs.Area.{Blocks}
use Rattle.redo_area.specs.Calls.{LeavesFrom}
use Rattle.redo_area.specs.Stages.{AtRest, BeforeOrAfter}
use Rattle.meta_txn.specs.Joined.{Joined}
use Rattle.sblock.specs.Form.{Form}
use Rattle.span_recs.specs.Spans.{bno_form, cnt_form}
use Rattle.span_recs.specs.Refcounts.{refc_form}
use Rattle.span_recs.specs.declared.span.SpanRec.{SpanRec}
use Rattle.rmap_recs.specs.Rmap.{rmap_form}
use Rattle.rmap_recs.specs.declared.records.RmapRec.{RmapRec}
use Rattle.ino_recs.specs.Chunks.{ino_form, fino_form}
use Rattle.tree_defs.specs.Lists.{In}
use Rattle.geom.specs.Places.{layout}
use Rattle.geom.specs.declared.geometry.Geometry.{Geometry}
use Rattle.tree_defs.specs.Sites.{group_blocks, site_of}
use Rattle.tree_defs.specs.Tree.{read_tree}
use Rattle.tree_defs.specs.declared.site.Site.{Site}
use Rattle.tree_blocks.specs.declared.tree.TreeAt.{TreeAt}
use Rattle.list_edit.specs.declared.edits.Edit.TheVariants.{Insert, Remove}
use Rattle.tree_edit.specs.Edited.{IsEdited}
use Rattle.tree_edit.specs.Prepared.{Held}
use Rattle.tree_edit.specs.declared.fault.EditFault.{EditFault}

-- no block is in both
abbrev pub AreApart : (ℕ → Type 0) → (ℕ → Type 0) → Type 0
AreApart S T = (b : ℕ) → S b → T b → ⊥

module _ (site : Site) where
  -- the tree in the image has these blocks
  abbrev pub HasBlocks : {R K : Type 0} → Form R K → Blocks → TreeAt → List ℕ → Type 0
  HasBlocks {R} form image tree blocks = (recs : List R) × (read_tree form site (group_blocks site image) tree.root tree.levels ≡ Ok (recs, blocks))

  -- the three edits, one after the other, each reading what the ones before have joined
  pub record AreChanged (run : SpanRec) (owned : RmapRec) (told : Option Contents) (bno cnt rmap : TreeAt) (txn : Joined) (list : FreeRing) (txn' : Joined) : Type 0 where
    pub first : Held
    pub second : Held
    pub third : Held
    pub by_start : (limbo : List ℕ) × IsEdited bno_form site Remove run bno.lsn told (record { root = bno.root; levels = bno.levels; joined = txn; listed = entries list; limbo = limbo }) first
    pub by_count : (limbo : List ℕ) × IsEdited cnt_form site Remove run cnt.lsn told (record { root = cnt.root; levels = cnt.levels; joined = first.joined; listed = first.listed; limbo = limbo }) second
    pub owners : (limbo : List ℕ) × IsEdited rmap_form site Insert owned rmap.lsn told (record { root = rmap.root; levels = rmap.levels; joined = second.joined; listed = second.listed; limbo = limbo }) third
    pub joined : txn' ≡ third.joined

  -- the blocks of three trees of an image, and of a list, which are apart
  pub record AreSpread (image : Blocks) (bno cnt rmap : TreeAt) (listed : List ℕ) : Type 0 where
    pub by_start : List ℕ
    pub by_count : List ℕ
    pub owners : List ℕ
    pub bno_has : HasBlocks bno_form image bno by_start
    pub cnt_has : HasBlocks cnt_form image cnt by_count
    pub rmap_has : HasBlocks rmap_form image rmap owners
    pub bno_apart : AreApart (λ b. In b by_start) (λ b. In b listed)
    pub cnt_apart : AreApart (λ b. In b by_count) (λ b. In b listed ⊎ In b by_start)
    pub rmap_apart : AreApart (λ b. In b owners) (λ b. (In b listed ⊎ In b by_start) ⊎ In b by_count)

  -- a block of one of them
  abbrev pub IsTouched : {image : Blocks} {bno cnt rmap : TreeAt} {listed : List ℕ} → AreSpread image bno cnt rmap listed → ℕ → Type 0
  IsTouched {image} {bno} {cnt} {rmap} {listed} spread b = ((In b listed ⊎ In b spread.by_start) ⊎ In b spread.by_count) ⊎ In b spread.owners

  -- a tree that has none of their blocks is read alike in both images
  abbrev pub StaysRead : {R K : Type 0} → Form R K → Blocks → Blocks → (ℕ → Type 0) → Type 0
  StaysRead {R} form image image' Touched = (root levels : ℕ) (recs : List R) (blocks : List ℕ) → read_tree form site (group_blocks site image) root levels ≡ Ok (recs, blocks) → AreApart (λ b. In b blocks) Touched
      → read_tree form site (group_blocks site image') root levels ≡ Ok (recs, blocks)

  -- what the change leaves alone: all blocks of the image but these, and so the other three trees of the group
  pub record Stays (image image' : Blocks) (Touched : ℕ → Type 0) : Type 0 where
    pub others : (at : ℕ) → ((b : ℕ) → Touched b → site.first + b ≡ at → ⊥) → image' at ≡ image at
    pub counts : StaysRead refc_form image image' Touched
    pub inodes : StaysRead ino_form image image' Touched
    pub free_inodes : StaysRead fino_form image image' Touched

-- the three edits, in the first tree's group of an image of this geometry
abbrev pub ChangesIn : Geometry → SpanRec → RmapRec → Option Contents → TreeAt → TreeAt → TreeAt → Joined → FreeRing → Joined → Type 0
ChangesIn geo run owned told bno = AreChanged (site_of (layout geo) bno.group) run owned told bno

-- A change of the image: a crash leaves the image before or the changed one, Ok is the changed one, and what has none of
-- the blocks stays in it.
pub record IsGiven {D : Type 0} (g : Ghosts D) (old new : D) (site : Site) (bno cnt rmap : TreeAt) (listed : List ℕ) {T : Type 0} (result : Result T EditFault) : Type 0 where
  pub change : Blocks → Blocks
  pub crash : LeavesFrom g old new AtRest (BeforeOrAfter change)
  pub done : OnOk result (Becomes (g.content old) (g.content new) (λ m n. n Image ≡ change (m Image)))
  pub stays : IfSome (g.content old) (λ c. (spread : AreSpread site (c Image) bno cnt rmap listed) → Stays site (c Image) (change (c Image)) (IsTouched site spread))
