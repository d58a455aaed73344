-- What an edit made from a block of a tree down to the leaf of its record: each block of the way was made anew, alone or cut in two.
use Rattle.std.specs.Prelude.{◌≡◌, ◌≢◌, ◌⊎◌, ℕ, zero, suc, ◌+◌, ◌≤◌, Bool, true, false, List, [], ◌∷◌, ◌++◌}
use Rattle.sblock.specs.Blocks.{numrecs}
use Rattle.sblock.specs.Form.{Form}
use Rattle.sblock.specs.Headers.{no_block, left_of, right_of}
use Rattle.sblock.specs.Lists.{items_from}
use Rattle.sblock.specs.declared.block.Frame.{Frame}
use Rattle.tree_defs.specs.Levels.{AllEntries, IsRight, recs_of}
use Rattle.tree_defs.specs.Tree.{Entry}
use Rattle.tree_defs.specs.declared.site.Site.{Site}
use Rattle.list_edit.specs.declared.edits.Edit.{Edit}
use Rattle.edit_terms.specs.Made.{made, MayBe}
use Rattle.place_laws.specs.Forest.{AllBlocks, children, IsKeyed}
use Rattle.place_laws.specs.Passes.{IsFrameOf}
use Rattle.place_laws.specs.Turns.{Turns}
use Rattle.place_ways.specs.Fills.{LiesInside}
use Rattle.place_ways.specs.Found.{ServesDown}
use Rattle.place_ways.specs.Ways.{entry_on, front_on, back_on}
use Rattle.place_turns.specs.Edits.{many_after, edited_record, IsPlace, MayStand}
use Rattle.place_turns.specs.Leaves.{IsLeafOf, IsBehind}
use Rattle.place_turns.specs.Nodes.{IsNodeOf, IsBehindNode}

-- all but these are the same; a number that stands for no block is one of them where it is a sibling
pub record OthersStay (m n : ℕ → List ℕ) (p q right : ℕ) : Type 0 where
  pub others : (b : ℕ) → b ≢ p → b ≢ q → b ≢ right → n b ≡ m b
  pub nowhere : (b : ℕ) → b ≡ no_block → b ≢ p → b ≢ q → n b ≡ m b

module _ {R K : Type 0} (form : Form R K) (site : Site) (frame : Frame) (how : Edit) (r : R) where
  -- the leaf has its records with the edit at its place
  pub record IsLeafOver (m n : ℕ → List ℕ) (p : ℕ) : Type 0 where
    pub at : ℕ
    pub place : IsPlace form how r (m p) at
    pub leaf : IsLeafOf form site frame p (left_of (m p)) (right_of (m p)) (items_from (edited_record form how r (m p) at) (many_after how (numrecs (m p))) 0) (n p)
    pub others : (b : ℕ) → b ≢ p → n b ≡ m b

  -- so have it and a new leaf after it
  pub record IsLeafCut (m n : ℕ → List ℕ) (p q : ℕ) : Type 0 where
    pub at : ℕ
    pub half : ℕ
    pub rest : ℕ
    pub place : IsPlace form how r (m p) at
    pub all : half + rest ≡ many_after how (numrecs (m p))
    pub first : IsLeafOf form site frame p (left_of (m p)) q (items_from (edited_record form how r (m p) at) half 0) (n p)
    pub second : IsLeafOf form site frame q p (right_of (m p)) (items_from (edited_record form how r (m p) at) rest half) (n q)
    pub behind : IsBehind form site frame m n (right_of (m p)) q
    pub stay : OthersStay m n p q (right_of (m p))

  abbrev pub LeafMade : (ℕ → List ℕ) → (ℕ → List ℕ) → ℕ → List ℕ → List ℕ → Type 0
  LeafMade m n p parts fresh = ((parts ≡ p ∷ []) × (fresh ≡ []) × IsLeafOver m n p) ⊎ ((q : ℕ) × (parts ≡ p ∷ q ∷ []) × (fresh ≡ q ∷ []) × IsLeafCut m n p q)

  -- the node has these entries in the place of the one on the way
  abbrev pub entries_with : (ℕ → List ℕ) → ℕ → List (Entry K) → List (Entry K)
  entries_with m p new = front_on form r (m p) ++ (new ++ back_on form r (m p))

  pub record IsNodeOver (m low n : ℕ → List ℕ) (level p : ℕ) (new : List (Entry K)) : Type 0 where
    pub node : IsNodeOf form site frame level p (left_of (low p)) (right_of (low p)) (entries_with m p new) (n p)
    pub others : (b : ℕ) → b ≢ p → n b ≡ low b

  pub record IsNodeCut (m low n : ℕ → List ℕ) (level p q : ℕ) (new : List (Entry K)) : Type 0 where
    pub front : List (Entry K)
    pub back : List (Entry K)
    pub all : entries_with m p new ≡ front ++ back
    pub first : IsNodeOf form site frame level p (left_of (low p)) q front (n p)
    pub second : IsNodeOf form site frame level q p (right_of (low p)) back (n q)
    pub behind : IsBehindNode form site frame low n level (right_of (low p)) q
    pub stay : OthersStay low n p q (right_of (low p))

  abbrev pub NodeMade : (ℕ → List ℕ) → (ℕ → List ℕ) → (ℕ → List ℕ) → ℕ → ℕ → List (Entry K) → List ℕ → List ℕ → Type 0
  NodeMade m low n level p new parts mine = ((parts ≡ p ∷ []) × (mine ≡ []) × IsNodeOver m low n level p new) ⊎ ((q : ℕ) × (parts ≡ p ∷ q ∷ []) × (mine ≡ q ∷ []) × IsNodeCut m low n level p q new)

  -- the entries of what stands in the place of the child: with its keys, in the group, none with too few
  pub record AreEntriesOf (low : ℕ → List ℕ) (level : ℕ) (parts : List ℕ) (new : List (Entry K)) : Type 0 where
    pub lead : children new ≡ parts
    pub keyed : AllEntries (IsKeyed form low level) new
    pub inside : AllEntries (LiesInside site) new
    pub full : AllBlocks (IsRight form low site level false) parts

  -- from block p of a level down to the leaf; these stand in its place, of which these are fresh
  abbrev pub MadeFrom : (ℕ → List ℕ) → (ℕ → List ℕ) → ℕ → ℕ → List ℕ → List ℕ → Type 0
  MadeFrom m n zero p parts fresh = LeafMade m n p parts fresh
  MadeFrom m n (suc level) p parts fresh =
      (low : ℕ → List ℕ) × (below : List ℕ) × (lower : List ℕ) × (mine : List ℕ) × (new : List (Entry K))
      × MadeFrom m low level (entry_on form r (m p)).child below lower × AreEntriesOf low level below new × (fresh ≡ lower ++ mine) × NodeMade m low n level p new parts mine

module _ {R K : Type 0} (form : Form R K) (site : Site) (frame : Frame) where
  -- a block of the tree that is on the way of an edit that may be made
  pub record IsOnWay (how : Edit) (r : R) (m : ℕ → List ℕ) (level p : ℕ) : Type 0 where
    pub low : level ≤ 8
    pub serves : ServesDown form m r level p
    pub may : MayBe form how r (recs_of form m level p)

  abbrev pub MadeTurns : Type 0
  MadeTurns = (how : Edit) (r : R) (m n : ℕ → List ℕ) (level p : ℕ) (root : Bool) (parts fresh : List ℕ) → IsFrameOf site frame → MayStand form site how r → IsRight form m site level root p → IsOnWay how r m level p
      → MadeFrom form site frame how r m n level p parts fresh → Turns form site true m n level (p ∷ []) parts fresh [] (made form how r (recs_of form m level p))
