-- What an edit makes of a whole tree, once it was made from its root down.
use Rattle.std.specs.Prelude.{◌≡◌, ℕ, zero, suc, ◌+◌, ◌<◌, ◌≤◌, true, List, [], ◌∷◌, ◌++◌}
use Rattle.sblock.specs.Form.{Form}
use Rattle.sblock.specs.declared.block.Frame.{Frame}
use Rattle.tree_defs.specs.Levels.{recs_of}
use Rattle.tree_defs.specs.declared.site.Site.{Site}
use Rattle.list_edit.specs.declared.edits.Edit.{Edit}
use Rattle.edit_terms.specs.Made.{made, MayBe}
use Rattle.place_laws.specs.Forest.{below, Stands}
use Rattle.place_laws.specs.Passes.{IsFrameOf}
use Rattle.place_laws.specs.Tops.{AreFresh, Balances, IsGrown}
use Rattle.place_turns.specs.Edits.{MayStand}
use Rattle.place_made.specs.Made.{MadeFrom}

module _ {R K : Type 0} (form : Form R K) (site : Site) (frame : Frame) where
  -- a tree stands, and the edit may be made in it
  pub record IsEditable (how : Edit) (r : R) (m : ℕ → List ℕ) (level root : ℕ) : Type 0 where
    pub of : IsFrameOf site frame
    pub stand : MayStand form site how r
    pub may : MayBe form how r (recs_of form m level root)
    pub tree : Stands form m site level root

  -- the tree of this root stands with the edited records; its blocks are those it had and the fresh ones, less those that are freed
  pub record IsDoneAs (how : Edit) (r : R) (m n : ℕ → List ℕ) (level root level' root' : ℕ) (fresh freed : List ℕ) : Type 0 where
    pub tree : Stands form n site level' root'
    pub recs : recs_of form n level' root' ≡ made form how r (recs_of form m level root)
    pub blocks : Balances form site m n level root level' root' fresh freed

  -- the root stays
  abbrev pub TreeStays : Type 0
  TreeStays = (how : Edit) (r : R) (m n : ℕ → List ℕ) (level root : ℕ) (fresh : List ℕ) → IsEditable how r m level root → AreFresh form site m level root fresh
      → MadeFrom form site frame how r m n level root (root ∷ []) fresh → IsDoneAs how r m n level root level root fresh []

  -- the root was cut in two, and a new one stands above both
  abbrev pub TreeGrows : Type 0
  TreeGrows = (how : Edit) (r : R) (m low n : ℕ → List ℕ) (level root new : ℕ) (parts fresh : List ℕ) → IsEditable how r m level root → AreFresh form site m level root (fresh ++ new ∷ [])
      → MadeFrom form site frame how r m low level root parts fresh → IsGrown form site low n level new parts → IsDoneAs how r m n level root (suc level) new (fresh ++ new ∷ []) []

  -- the root has one child left, which is the root from now on
  abbrev pub TreeShrinks : Type 0
  TreeShrinks = (how : Edit) (r : R) (m n : ℕ → List ℕ) (level root child : ℕ) (fresh : List ℕ) → IsEditable how r m (suc level) root → AreFresh form site m (suc level) root fresh → ((1 ≤ child) × (child < site.bounds.length))
      → MadeFrom form site frame how r m n (suc level) root (root ∷ []) fresh → below form n (root ∷ []) ≡ child ∷ [] → IsDoneAs how r m n (suc level) root level child fresh (root ∷ [])
