-- The blocks of a new tree, written piece by piece.
use Rattle.std.specs.Prelude.{◌≡◌, ⊤, ℕ, ◌+◌, ◌<◌, ◌≤◌, List, [], ◌∷◌, length}
use Rattle.byte_fields.specs.declared.block.Block.{Block}
use Rattle.sblock.specs.Form.{Form}
use Rattle.sblock.specs.declared.block.Frame.{Frame}
use Rattle.bulk_load.specs.Loaded.{at_level, IsLaid, IsLoaded}
use Rattle.bulk_load.specs.Shapes.{width, start, IsShape}
use Rattle.bulk_load.specs.Trees.{Stand}

-- each of these blocks stands in its place
abbrev pub AreWritten : (ℕ → List ℕ) → List (ℕ × Block) → Type 0
AreWritten m [] = ⊤
AreWritten m (e ∷ es) = (m e.0 ≡ e.1.bytes) × AreWritten m es

module _ {R K : Type 0} (form : Form R K) where
  -- the blocks from one number on, below another, stand in the blocks that are claimed for them
  abbrev pub StandBetween : List R → List ℕ → Frame → (ℕ → List ℕ) → ℕ → ℕ → Type 0
  StandBetween list claimed frame m from to = (j i : ℕ) → i < width form.kind (length list) j → from ≤ start form.kind (length list) j + i → start form.kind (length list) j + i < to
      → IsLaid form list claimed frame j i (m (at_level form.kind (length list) claimed j i))

  -- so do those of a piece that was written
  abbrev pub PiecesStand : Type 0
  PiecesStand = (list : List R) (claimed : List ℕ) (frame : Frame) (m : ℕ → List ℕ) (from to : ℕ) (old new : List (ℕ × Block)) (piece : IsLoaded form list claimed frame from to old new)
      → AreWritten m piece.more → StandBetween list claimed frame m from to

  -- those of two pieces, of which one ends where the other begins
  abbrev pub PiecesJoin : Type 0
  PiecesJoin = (list : List R) (claimed : List ℕ) (frame : Frame) (m : ℕ → List ℕ) (from middle to : ℕ)
      → StandBetween list claimed frame m from middle → StandBetween list claimed frame m middle to → StandBetween list claimed frame m from to

  -- and all of them are the tree's blocks
  abbrev pub AllStand : Type 0
  AllStand = (list : List R) (claimed : List ℕ) (frame : Frame) (levels : ℕ) (m : ℕ → List ℕ) → IsShape form.kind (length list) levels (length claimed)
      → StandBetween list claimed frame m 0 (length claimed) → Stand form list claimed frame levels m
