-- The blocks of a new tree of this list, in the blocks that were claimed for it.
use Rattle.std.specs.Prelude.{◌≡◌, ℕ, ◌-◌, ◌≤◌, true, List, length, slice_index, All}
use Rattle.sblock.specs.Blocks.{IsRising, AllInside, AllSupported, AreBlocks}
use Rattle.sblock.specs.Form.{Form}
use Rattle.sblock.specs.Headers.{no_block}
use Rattle.sblock.specs.declared.block.Frame.{Frame}
use Rattle.tree_defs.specs.Levels.{blocks_of, IsSound, IsTree}
use Rattle.tree_defs.specs.Lists.{times, AllDiffer}
use Rattle.tree_defs.specs.declared.site.Site.{Site}
use Rattle.bulk_load.specs.Shapes.{IsShape}
use Rattle.bulk_load.specs.Trees.{Stand}

-- records and blocks that are in range, for blocks of a group
pub record IsGiven {R K : Type 0} (form : Form R K) (site : Site) (frame : Frame) (list : List R) (claimed : List ℕ) (levels : ℕ) : Type 0 where
  pub shape : IsShape form.kind (length list) levels (length claimed)
  pub rises : IsRising form list
  pub inside : AllInside form site.bounds list
  pub supported : AllSupported form list
  pub written : All (λ r. form.is_written r ≡ true) list
  pub lie : AreBlocks site.bounds.length claimed
  pub differ : AllDiffer claimed
  pub short : site.bounds.length ≤ no_block
  pub group : frame.group ≡ site.group
  pub first : frame.first ≡ site.first
  pub uuid : frame.uuid ≡ site.uuid

-- each block below the last one passes its tests, and each key of a node is that of the records below it
abbrev pub AreSoundBelow : {R K : Type 0} → Form R K → Type 0
AreSoundBelow {R} {K} form = (site : Site) (frame : Frame) (m : ℕ → List ℕ) (list : List R) (claimed : List ℕ) (levels : ℕ) → IsGiven form site frame list claimed levels → Stand form list claimed frame levels m
    → IsSound form m site (levels - 1) true (slice_index claimed (length claimed - 1))

-- They are a tree of exactly the list and of exactly the claimed blocks, whatever the image's other
-- blocks are; its root is the last one.
abbrev pub AreTrees : {R K : Type 0} → Form R K → Type 0
AreTrees {R} {K} form = (site : Site) (frame : Frame) (m : ℕ → List ℕ) (list : List R) (claimed : List ℕ) (levels : ℕ) → IsGiven form site frame list claimed levels → Stand form list claimed frame levels m
    → IsTree form site m (slice_index claimed (length claimed - 1)) levels list (blocks_of form m (levels - 1) (slice_index claimed (length claimed - 1)))
    × ((b : ℕ) → times b (blocks_of form m (levels - 1) (slice_index claimed (length claimed - 1))) ≡ times b claimed)
