-- What an edit made from a block of a tree down to the leaf of its record, by the bytes of the blocks on its way alone.
use Rattle.std.specs.Prelude.{◌≡◌, ◌⊎◌, ℕ, zero, suc, ◌+◌, ◌<◌, ◌≤◌, true, false, List, [], ◌∷◌, ◌++◌, Option, Ok}
use Rattle.sblock.specs.Blocks.{numrecs, records_of}
use Rattle.sblock.specs.Form.{Form}
use Rattle.sblock.specs.Headers.{no_block, left_of, right_of}
use Rattle.sblock.specs.Spans.{span_of, span_over}
use Rattle.sblock.specs.declared.block.Frame.{Frame}
use Rattle.sblock.specs.declared.spans.Span.{Span}
use Rattle.tree_defs.specs.Levels.{AllEntries, IsRight, entries, recs_of}
use Rattle.tree_defs.specs.Lists.{times, AllDiffer}
use Rattle.tree_defs.specs.Tree.{Entry, agrees, entries_from, read_tree}
use Rattle.tree_defs.specs.declared.site.Site.{Site}
use Rattle.list_edit.specs.declared.edits.Edit.{Edit}
use Rattle.edit_terms.specs.Made.{made, MayBe}
use Rattle.place_laws.specs.Forest.{AllBlocks, below, children}
use Rattle.place_laws.specs.Keys.{spans_in}
use Rattle.place_laws.specs.Passes.{IsFrameOf}
use Rattle.place_laws.specs.Turns.{Fits}
use Rattle.place_ways.specs.Fills.{LiesInside}
use Rattle.place_ways.specs.Ways.{entry_on}
use Rattle.place_turns.specs.Edits.{MayStand}
use Rattle.place_made.specs.Made.{LeafMade, NodeMade, MadeFrom, IsOnWay}

module _ {R K : Type 0} (form : Form R K) where
  -- the keys of a block's own records, or of its own entries
  abbrev pub block_span : ℕ → List ℕ → Option (Span K)
  block_span zero bytes = span_of form (records_of form bytes)
  block_span (suc level) bytes = span_over form (spans_in (entries_from form bytes 0 (numrecs bytes)))

  -- the entry has the keys of its child's block, whatever stands below that
  abbrev pub IsKeyedBy : (ℕ → List ℕ) → ℕ → Entry K → Type 0
  IsKeyedBy m level e = agrees form e (block_span level (m e.child)) ≡ true

module _ {R K : Type 0} (form : Form R K) (site : Site) (frame : Frame) (how : Edit) (r : R) where
  -- the entries of what stands in the place of the child: with the keys of its blocks, in the group, none with too few
  pub record AreEntriesBy (low : ℕ → List ℕ) (level : ℕ) (parts : List ℕ) (new : List (Entry K)) : Type 0 where
    pub lead : children new ≡ parts
    pub keyed : AllEntries (IsKeyedBy form low level) new
    pub inside : AllEntries (LiesInside site) new
    pub full : AllBlocks (IsRight form low site level false) parts

  -- From block p of a level down to the leaf; these stand in its place, of which these are fresh. It is `MadeFrom`, but for
  -- keys: here they are those of the one block below.
  abbrev pub WayFrom : (ℕ → List ℕ) → (ℕ → List ℕ) → ℕ → ℕ → List ℕ → List ℕ → Type 0
  WayFrom m n zero p parts fresh = LeafMade form site frame how r m n p parts fresh
  WayFrom m n (suc level) p parts fresh =
      (low : ℕ → List ℕ) × (below : List ℕ) × (lower : List ℕ) × (mine : List ℕ) × (new : List (Entry K))
      × WayFrom m low level (entry_on form r (m p)).child below lower × AreEntriesBy low level below new × (fresh ≡ lower ++ mine) × NodeMade form site frame how r m low n level p new parts mine

module _ {R K : Type 0} (form : Form R K) (site : Site) (frame : Frame) where
  -- in a row that stands, the keys of the blocks are those of all that is below
  abbrev pub WaysMake : Type 0
  WaysMake = (how : Edit) (r : R) (m n : ℕ → List ℕ) (level p : ℕ) (xs ys parts fresh : List ℕ) → IsFrameOf site frame → MayStand form site how r → IsOnWay form site frame how r m level p → Fits form site m level xs (p ∷ []) ys fresh
      → WayFrom form site frame how r m n level p parts fresh → MadeFrom form site frame how r m n level p parts fresh

  -- what is read of a tree that was edited from its root down: the edited records, and the blocks that it had with the fresh ones
  pub record ReadsMade (how : Edit) (r : R) (n : ℕ → List ℕ) (root levels : ℕ) (recs : List R) (blocks fresh : List ℕ) : Type 0 where
    pub may : MayBe form how r recs
    pub after : List ℕ
    pub read : read_tree form site n root levels ≡ Ok (made form how r recs, after)
    pub once : (b : ℕ) → times b after ≡ times b blocks + times b fresh

  -- A new root stands above what stands in the place of the old one, with the keys of these blocks.
  pub record IsGrownBy (low n : ℕ → List ℕ) (level new : ℕ) (parts : List ℕ) : Type 0 where
    pub lies : (1 ≤ new) × (new < site.bounds.length)
    pub few : level < 8
    pub leads : below form n (new ∷ []) ≡ parts
    pub keyed : AllEntries (IsKeyedBy form low level) (entries form n new)
    pub passes : IsRight form n site (suc level) true new
    pub left : left_of (n new) ≡ no_block
    pub right : right_of (n new) ≡ no_block
    pub full : AllBlocks (IsRight form low site level false) parts
    pub others : (b : ℕ) → (b ≡ new → ⊥) → n b ≡ low b

  -- A tree that is read, edited from its root down, over which a new root stands.
  abbrev pub WaysGrow : Type 0
  WaysGrow = (how : Edit) (r : R) (m low n : ℕ → List ℕ) (level root new : ℕ) (recs : List R) (blocks parts fresh : List ℕ) → IsFrameOf site frame → MayStand form site how r → site.bounds.length ≤ no_block
      → read_tree form site m root (suc level) ≡ Ok (recs, blocks) → AllDiffer (blocks ++ (fresh ++ new ∷ [])) → AllBlocks (λ b. b < no_block) (fresh ++ new ∷ [])
      → WayFrom form site frame how r m low level root parts fresh → IsGrownBy low n level new parts → ReadsMade how r n new (suc (suc level)) recs blocks (fresh ++ new ∷ [])

  -- A tree that is read, edited from its root down, whose root stays.
  abbrev pub WaysRead : Type 0
  WaysRead = (how : Edit) (r : R) (m n : ℕ → List ℕ) (level root : ℕ) (recs : List R) (blocks fresh : List ℕ) → IsFrameOf site frame → MayStand form site how r → site.bounds.length ≤ no_block
      → read_tree form site m root (suc level) ≡ Ok (recs, blocks) → AllDiffer (blocks ++ fresh) → AllBlocks (λ b. b < no_block) fresh
      → WayFrom form site frame how r m n level root (root ∷ []) fresh → ReadsMade how r n root (suc level) recs blocks fresh
