-- A whole tree, from its root down.
use Rattle.std.proofs.Common.{◌≡◌, ℕ, zero, suc, ◌+◌, ◌<◌, ◌≤◌, Bool, true, List, [], ◌∷◌, ◌++◌, arith}
use Rattle.sblock.specs.Blocks.{IsRising}
use Rattle.sblock.specs.Form.{Form, IsLawful}
use Rattle.sblock.specs.declared.block.Frame.{Frame}
use Rattle.tree_defs.specs.Levels.{IsRight, recs_of}
use Rattle.tree_defs.specs.declared.site.Site.{Site}
use Rattle.list_edit.specs.declared.edits.Edit.{Edit}
use Rattle.edit_terms.specs.Made.{made}
use Rattle.place_laws.specs.Turns.{Turns}
use Rattle.place_laws.proofs.TopLemmas.{root_stays_lem, root_grows_lem, root_shrinks_lem}
use Rattle.place_turns.proofs.EditLemmas.{made_rises}
use Rattle.place_turns.proofs.RowLemmas.{forests_serve_lem}
use Rattle.place_made.specs.Made.{IsOnWay, MadeFrom}
use Rattle.place_made.specs.Trees.{IsEditable, IsDoneAs, TreeStays, TreeGrows, TreeShrinks}
use Rattle.place_made.proofs.MadeLemmas.{made_turns_lem, row_right}

module _ {R K : Type 0} (form : Form R K) (law : IsLawful form) (site : Site) (frame : Frame) (how : Edit) (r : R) where
  module _ (m n : ℕ → List ℕ) (level root : ℕ) (is : IsEditable form site frame how r m level root) where
    root_right : IsRight form m site level true root
    root_right = (row_right form law site m level (root ∷ []) is.tree.forest).0

    on_way : IsOnWay form site frame how r m level root
    on_way = record {
      low = is.tree.few;
      serves = forests_serve_lem form law site m r level [] root [] is.tree.forest is.tree.rises;
      may = is.may;
    }

    pub turned : (parts fresh : List ℕ) → MadeFrom form site frame how r m n level root parts fresh → Turns form site true m n level (root ∷ []) parts fresh [] (made form how r (recs_of form m level root))
    turned parts fresh step = made_turns_lem form law site frame how r m n level root true parts fresh is.of is.stand root_right on_way step

    pub risen : IsRising form (made form how r (recs_of form m level root))
    risen = made_rises form law r how (recs_of form m level root) is.may is.tree.rises

pub tree_stays_lem : {R K : Type 0} (form : Form R K) → IsLawful form → (site : Site) (frame : Frame) → TreeStays form site frame
tree_stays_lem form law site frame how r m n level root fresh is apart step =
    let t = root_stays_lem form site m n level root fresh [] (made form how r (recs_of form m level root)) is.tree apart (turned form law site frame how r m n level root is (root ∷ []) fresh step) (risen form law site frame how r m n level root is) in
    record { tree = t.0; recs = t.1; blocks = t.2 }

pub tree_grows_lem : {R K : Type 0} (form : Form R K) → IsLawful form → (site : Site) (frame : Frame) → TreeGrows form site frame
tree_grows_lem form law site frame how r m low n level root new parts fresh is apart step grown =
    let t = root_grows_lem form site m low n level root new parts fresh [] (made form how r (recs_of form m level root)) is.tree apart (turned form law site frame how r m low level root is parts fresh step) grown (risen form law site frame how r m low level root is) in
    record { tree = t.0; recs = t.1; blocks = t.2 }

pub tree_shrinks_lem : {R K : Type 0} (form : Form R K) → IsLawful form → (site : Site) (frame : Frame) → TreeShrinks form site frame
tree_shrinks_lem form law site frame how r m n level root child fresh is apart lies step leads =
    let t = root_shrinks_lem form site m n level root child fresh [] (made form how r (recs_of form m (suc level) root)) is.tree apart lies true (turned form law site frame how r m n (suc level) root is (root ∷ []) fresh step) leads (risen form law site frame how r m n (suc level) root is) in
    record { tree = t.0; recs = t.1; blocks = t.2 }
