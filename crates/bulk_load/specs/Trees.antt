-- What the blocks of a new tree hold where they stand in an image of the group.
use Rattle.std.specs.Prelude.{◌≡◌, ℕ, ◌-◌, ◌<◌, true, List, length, slice_index, All}
use Rattle.sblock.specs.Form.{Form}
use Rattle.sblock.specs.declared.block.Frame.{Frame}
use Rattle.tree_defs.specs.Levels.{recs_of}
use Rattle.bulk_load.specs.Loaded.{at_level, IsLaid}
use Rattle.bulk_load.specs.Shapes.{width, IsShape}

module _ {R K : Type 0} (form : Form R K) where
  -- each block stands in the block that is claimed for it; the image's other blocks are free
  abbrev pub Stand : List R → List ℕ → Frame → ℕ → (ℕ → List ℕ) → Type 0
  Stand list claimed frame levels m = (j i : ℕ) → j < levels → i < width form.kind (length list) j → IsLaid form list claimed frame j i (m (at_level form.kind (length list) claimed j i))

  -- the records below the last one, from left to right, are the list
  abbrev pub HoldTheList : Type 0
  HoldTheList = (list : List R) (claimed : List ℕ) (frame : Frame) (levels : ℕ) (m : ℕ → List ℕ) → IsShape form.kind (length list) levels (length claimed) → All (λ r. form.is_written r ≡ true) list
      → Stand list claimed frame levels m → recs_of form m (levels - 1) (slice_index claimed (length claimed - 1)) ≡ list
