-- What the code keeps of a walk, as a trail.
use Rattle.std.specs.Prelude.{ℕ, nat_lt, List}
use Rattle.sblock.specs.Blocks.{IsRising, AllInside, AllSupported}
use Rattle.sblock.specs.Form.{Form}
use Rattle.sblock.specs.Lists.{Each}
use Rattle.sblock.specs.declared.block.Bounds.{Bounds}
use Rattle.tree_defs.specs.Tree.{Trail}
use Rattle.tree_walk.specs.declared.seen.Seen.{Seen}

abbrev pub trail_of : {R : Type 0} → Seen R → Trail R
trail_of seen = record { before = seen.before; next = seen.next; recs = seen.recs.items; blocks = seen.blocks.items }

-- blocks of a group of this length
abbrev pub LieInside : ℕ → List ℕ → Type 0
LieInside len blocks = Each (λ b. nat_lt b len) blocks

-- records that rise by their keys, each of a supported form and in range
pub record AreSound {R K : Type 0} (form : Form R K) (bounds : Bounds) (recs : List R) : Type 0 where
  pub rising : IsRising form recs
  pub inside : AllInside form bounds recs
  pub supported : AllSupported form recs
