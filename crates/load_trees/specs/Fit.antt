-- What can be loaded as a whole tree, and why it can't be.
use Rattle.std.specs.Prelude.{◌≡◌, ⊤, ℕ, ◌+◌, ◌≤◌, List, length}
use Rattle.byte_fields.specs.Steps.{StepCount}
use Rattle.sblock.specs.Blocks.{IsRising, AllInside, AreBlocks}
use Rattle.sblock.specs.Form.{Form}
use Rattle.sblock.specs.declared.block.Frame.{Frame}
use Rattle.sblock.specs.declared.kind.Kind.{Kind}
use Rattle.tree_defs.specs.Lists.{AllDiffer}
use Rattle.tree_defs.specs.declared.site.Site.{Site}
use Rattle.bulk_load.specs.Shapes.{IsShape}
use Rattle.load_trees.specs.declared.unfit.Unfit.{Unfit}
use Rattle.load_trees.specs.declared.unfit.Unfit.TheVariants.{Order, Range, Blocks, Memory}

-- as many blocks as a tree of n records has, each one of the group's, none twice
pub record AreClaimed (kind : Kind) (n length_of : ℕ) (claimed : List ℕ) : Type 0 where
  pub many : (levels : ℕ) × IsShape kind n levels (length claimed)
  pub lie : AreBlocks length_of claimed
  pub differ : AllDiffer claimed

-- what the header of each block is made of
abbrev pub frame_of : Site → ℕ → Frame
frame_of site lsn = record { group = site.group; first = site.first; uuid = site.uuid; lsn = lsn }

module _ {R K : Type 0} (form : Form R K) (site : Site) (list : List R) (claimed : List ℕ) where
  pub record IsFit : Type 0 where
    pub rises : IsRising form list
    pub inside : AllInside form site.bounds list
    pub claims : AreClaimed form.kind (length list) site.bounds.length claimed

  -- the first of these that doesn't hold
  abbrev pub IsUnfit : Unfit → Type 0
  IsUnfit Order = ¬ IsRising form list
  IsUnfit Range = IsRising form list × ¬ AllInside form site.bounds list
  IsUnfit Blocks = IsRising form list × AllInside form site.bounds list × ¬ AreClaimed form.kind (length list) site.bounds.length claimed
  IsUnfit Memory = ⊤

-- so many blocks at most were counted as written, and nothing else
abbrev pub WritesSome : ℕ → StepCount → StepCount → Type 0
WritesSome most before after = (n : ℕ) × (n ≤ most) × (after ≡ record before { writes = before.writes + n })
