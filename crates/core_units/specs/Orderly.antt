-- What always holds of what a unit has gathered.
use Rattle.std.specs.Prelude.{◌≡◌, ⊤, ℕ, ◌++◌, [], Option, Some, None}
use Rattle.core_units.specs.Trees.{AreSeenSound}
use Rattle.geom.specs.Layout.{Layout, group_len_of}
use Rattle.inode_pass.specs.Units.{unit_numbers, units_in}
use Rattle.quiet_check.specs.Judged.{AreUnitsOf}
use Rattle.quiet_check.specs.Units.{AreListed}
use Rattle.quiet_check.specs.declared.units.Listed.{Listed}
use Rattle.core_units.specs.Cores.{units_left}
use Rattle.core_units.specs.declared.gather.Gathered.{Gathered}
use Rattle.core_units.specs.declared.gather.Gathering.{Gathering}
use Rattle.core_units.specs.declared.gather.Gathering.TheVariants.{More, Whole, GaveUp}

-- Before the units are listed none is seen; then all trees are read, and those that were seen and those that are left
-- are all that the trees list.
abbrev pub AreUnitsAt : Layout → ℕ → Gathered → Option Listed → Type 0
AreUnitsAt at g gathered None = (gathered.seen.items ≡ []) × (gathered.at ≡ record { run = 0; passed = 0 })
AreUnitsAt at g gathered (Some listed) =
    (gathered.reading ≡ None) × AreListed (group_len_of at g) gathered.trees listed
    × (unit_numbers gathered.seen.items ++ units_left listed.either.items gathered.at ≡ units_in listed.either.items)

pub record IsOrderly (at : Layout) (g : ℕ) (gathered : Gathered) : Type 0 where
  pub trees : AreSeenSound at g gathered.trees
  pub units : AreUnitsAt at g gathered gathered.listed

-- where all is gathered, the units that were seen are those that the trees list
abbrev pub IsWholeIf : Layout → ℕ → Gathered → Gathering → Type 0
IsWholeIf at g gathered More = ⊤
IsWholeIf at g gathered Whole = AreUnitsOf at g gathered.trees gathered.seen.items
IsWholeIf at g gathered (GaveUp found) = ⊤
