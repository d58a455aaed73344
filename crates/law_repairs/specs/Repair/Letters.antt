-- What a repair has made of the units of a group, from each one's verdict on.
use Rattle.std.specs.Prelude.{◌≡◌, ℕ, None}
use Rattle.fs_state.specs.Claims.{claims}
use Rattle.fs_state.specs.Contradiction.{first_bad_fork, first_overlap}
use Rattle.fs_state.specs.Records.{kinds_of}
use Rattle.fs_state.specs.Laws.{EachTree, IsGood}
use Rattle.fs_model.specs.declared.unit.Trust.TheVariants.{Good}
use Rattle.fs_model.specs.declared.unit.Unit.{Unit as ScrubUnit}
use Rattle.fs_model.specs.declared.unit.Unit.TheVariants as units
use Rattle.fs_state.specs.State.{State}

-- a verdict or a switch made all trees of the unit good, and no mark or fault came since
abbrev pub IsTrusted : State → ℕ → ScrubUnit → Type 0
IsTrusted a g unit = EachTree (λ k. ((a.group g).tree k).trust ≡ Good) (kinds_of unit)

-- each block has one claim, or is written data of files alone; and each fork can be read
pub record IsClear (a : State) (g : ℕ) : Type 0 where
  pub apart : first_overlap a g (claims a g) ≡ None
  pub forks : first_bad_fork a ≡ None

-- Which trees hold what they should? What that is counts reserve and limbo. Of reverse mappings also claims are clear.
abbrev pub Holds : State → ℕ → ScrubUnit → Type 0
Holds a g units.Inode = IsGood a g units.Inode
Holds a g units.Rmap = IsGood a g units.Rmap × IsClear a g
Holds a g units.Free = IsGood a g units.Free
Holds a g units.Refc = IsGood a g units.Refc

-- What is known of a unit of a group? Where its trees are trusted, it holds.
abbrev pub Stands : State → ℕ → ScrubUnit → Type 0
Stands a g unit = IsTrusted a g unit → Holds a g unit
