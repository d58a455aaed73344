-- Blocks that were made, beside the old ones with their numbers.
use Rattle.std.specs.Prelude.{◌≡◌, ◌⊎◌, ◌<◌, ◌≤◌, ◌==◌, ◌||◌, ◌+◌, ℕ, suc, Bool, true, false, List, [], ◌∷◌, ◌++◌, Option, Some, None, Ok}
use Rattle.byte_fields.specs.declared.block.Block.{Block}
use Rattle.sblock.specs.Area.{area_of, child_of}
use Rattle.sblock.specs.Blocks.{numrecs, records_of}
use Rattle.sblock.specs.Form.{Form}
use Rattle.sblock.specs.Headers.{no_block, left_of, right_of}
use Rattle.sblock.specs.Lists.{items_from}
use Rattle.sblock.specs.Meets.{parts_blocks}
use Rattle.sblock.specs.declared.block.Frame.{Frame}
use Rattle.tree_defs.specs.Claims.{lone_fault}
use Rattle.tree_defs.specs.Levels.{IsRight, blocks_of}
use Rattle.tree_defs.specs.Lists.{In, times}
use Rattle.tree_defs.specs.Tree.{agrees, entry_at, read_tree}
use Rattle.tree_defs.specs.declared.site.Site.{Site}
use Rattle.tree_blocks.specs.Told.{WhereTold}
use Rattle.tree_blocks.specs.declared.tree.TreeAt.{TreeAt}
use Rattle.list_edit.specs.Edits.{comes_before, edited}
use Rattle.list_edit.specs.declared.edits.Edit.{Edit}
use Rattle.list_edit.specs.declared.edits.Edit.TheVariants.{Remove}
use Rattle.over_blocks.specs.Over.{over}
use Rattle.over_blocks.specs.declared.draft.Draft.{Draft}
use Rattle.place_cells.specs.Cells.{item_at}
use Rattle.place_cells.specs.Entries.{cell_in, HasCell}
use Rattle.place_cells.specs.declared.cut.Cut.{Cut}
use Rattle.place_cells.specs.declared.node.Cell.{Cell}
use Rattle.place_plan.specs.declared.ask.Ask.{Ask}
use Rattle.place_plan.specs.declared.ask.Spot.{Spot}
use Rattle.place_ways.specs.Ways.{way_in}
use Rattle.place_turns.specs.Edits.{many_after, edited_record, IsPlace, MayStand}
use Rattle.way_check.specs.Way.{block_span, WayFrom}

-- what stands in the header of a block of this site
abbrev pub frame_of : Site → Frame
frame_of site = record { group = site.group; first = site.first; uuid = site.uuid; lsn = 0 }

-- a block with this number is one of these
abbrev pub is_placed : ℕ → List (ℕ × Block) → Bool
is_placed p [] = false
is_placed p (e ∷ es) = e.0 == p || is_placed p es

-- one entry of a node in the place of another
abbrev pub cell_over : {K : Type 0} → Cell K → ℕ → Cut (Cell K)
cell_over cell at = record { at = at; gone = 1; first = Some cell; second = None }

-- no block is taken or freed, and the root stays
pub record IsStill (tree : TreeAt) (draft : Draft) : Type 0 where
  pub root : draft.root ≡ tree.root
  pub levels : draft.levels ≡ tree.levels
  pub taken : draft.taken ≡ 0
  pub freed : draft.freed.items ≡ []

module _ {R K : Type 0} (form : Form R K) where
  -- record i of a leaf, as its bytes have it
  abbrev pub record_in : List ℕ → ℕ → R
  record_in bytes i = form.record_at (area_of bytes) i

  -- the record in front of the place comes before this one, and the one there doesn't
  abbrev pub IsFront : R → List ℕ → ℕ → Type 0
  IsFront r bytes at = (i : ℕ) → i < at → at ≤ i + 1 → comes_before form r (record_in bytes i) ≡ true

  abbrev pub IsBack : R → List ℕ → ℕ → Type 0
  IsBack r bytes at = at < numrecs bytes → comes_before form r (record_in bytes at) ≡ false

  -- the new leaf has the old one's records with the edit at its place
  pub record HasEdit (how : Edit) (r : R) (old new : List ℕ) : Type 0 where
    pub at : ℕ
    pub place : IsPlace form how r old at
    pub recs_are : records_of form new ≡ items_from (edited_record form how r old at) (many_after how (numrecs old)) 0

  -- the new node's entry k, where another stands in the place of one
  abbrev pub IsCellOver : List ℕ → List ℕ → ℕ → ℕ → Type 0
  IsCellOver old new at k = HasCell form (area_of new) k (item_at (cell_in form old) (cell_over (cell_in form new at) at) k)

  -- the new node has the old one's entries, but for this one's keys, which are those of the block below
  pub record HasChild (level : ℕ) (old new below : List ℕ) (at : ℕ) : Type 0 where
    pub inside : at < numrecs old
    pub count : numrecs new ≡ numrecs old
    pub cells : (k : ℕ) → k < numrecs new → IsCellOver old new at k
    pub child : child_of form.kind (area_of new) at ≡ child_of form.kind (area_of old) at
    pub keyed : agrees form (entry_at form (area_of new) at) (block_span form level below) ≡ true

  -- it passes by itself, and has the siblings of the old one
  pub record Passes (site : Site) (spot : Spot) (old new : List ℕ) : Type 0 where
    pub lone : lone_fault form site spot.level spot.root spot.block new ≡ None
    pub left : left_of new ≡ left_of old
    pub right : right_of new ≡ right_of old

  -- the entry of a node on the way, and its child, which is a block of the group
  pub record LeadsOn (ask : Ask R) (node : List ℕ) (at child : ℕ) : Type 0 where
    pub way : at ≡ way_in form ask.rec node
    pub inside : at < numrecs node
    pub child_is : child_of form.kind (area_of node) (way_in form ask.rec node) ≡ child
    pub some : 1 ≤ child
    pub lies : child < ask.site.bounds.length

  -- The new node has the keys of the block below that was made last, which stands in the place of the entry's child on the
  -- way. That block is of this level.
  pub record IsStep (ask : Ask R) (level : ℕ) (old new : List ℕ) (lower : List (ℕ × Block)) (child : ℕ) : Type 0 where
    pub front : List (ℕ × Block)
    pub top : ℕ × Block
    pub are : lower ≡ front ++ top ∷ []
    pub number : top.0 ≡ child
    pub has : HasChild level old new top.1.bytes (way_in form ask.rec old)
    pub child_is : child_of form.kind (area_of old) (way_in form ask.rec old) ≡ child
    pub some : 1 ≤ child
    pub inside : child < ask.site.bounds.length

  -- From the block of the spot down to the leaf, each block on the way was made anew: these, from the leaf upwards, and no
  -- others. Those were the tree's.
  pub record IsWay (ask : Ask R) (placed : List (ℕ × Block)) (m : ℕ → List ℕ) (spot : Spot) : Type 0 where
    pub way : WayFrom form ask.site (frame_of ask.site) ask.how ask.rec m (over placed m) spot.level spot.block (spot.block ∷ []) []
    pub right : IsRight form (over placed m) ask.site spot.level spot.root spot.block
    pub own : (b : ℕ) → is_placed b placed ≡ true → In b (blocks_of form m spot.level spot.block)

  abbrev pub root_spot : ℕ → ℕ → Spot
  root_spot level root = record { level = level; root = true; block = root }

  -- That a record has the key of the new one is all that bars it.
  abbrev pub IsPlain : Edit → Type 0
  IsPlain how = (how ≡ Remove) ⊎ (parts_blocks form.kind ≡ false)

  -- No block is taken or freed, and each block on the way was made of the old one.
  pub record IsMade (ask : Ask R) (tree : TreeAt) (told : Option (ℕ → List ℕ)) (draft : Draft) : Type 0 where
    pub still : IsStill tree draft
    pub level : ℕ
    pub tall : tree.levels ≡ suc level
    pub short : ask.site.bounds.length ≤ no_block
    pub plain : IsPlain ask.how
    pub stand : MayStand form ask.site ask.how ask.rec
    pub way : WhereTold told (λ m. IsWay ask draft.placed.items m (root_spot level tree.root))

  -- The draft is read with the edited records, in the blocks that the tree had, and each made block was one of these.
  pub record IsReadMade (ask : Ask R) (m : ℕ → List ℕ) (recs : List R) (before : List ℕ) (draft : Draft) : Type 0 where
    pub records : List R
    pub after : List ℕ
    pub edits : edited form ask.how ask.rec recs ≡ Ok records
    pub read : read_tree form ask.site (over draft.placed.items m) draft.root draft.levels ≡ Ok (records, after)
    pub once : (b : ℕ) → times b after ≡ times b before
    pub own : (b : ℕ) → is_placed b draft.placed.items ≡ true → In b before

  abbrev pub MadeReads : Type 0
  MadeReads = (ask : Ask R) (tree : TreeAt) (told : Option (ℕ → List ℕ)) (draft : Draft) (m : ℕ → List ℕ) (recs : List R) (before : List ℕ) → IsMade ask tree told draft → told ≡ Some m
      → read_tree form ask.site m tree.root tree.levels ≡ Ok (recs, before) → IsReadMade ask m recs before draft
