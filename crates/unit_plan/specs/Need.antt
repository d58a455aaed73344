-- How many blocks do the new btrees of a unit need?
use Rattle.std.specs.Prelude.{◌≡◌, ℕ, ◌+◌}
use Rattle.bulk_load.specs.Shapes.{IsShape}
use Rattle.fs_model.specs.declared.unit.Unit.{Unit as ScrubUnit}
use Rattle.fs_model.specs.declared.unit.Unit.TheVariants as units
use Rattle.sblock.specs.declared.kind.Kind.{Kind}
use Rattle.sblock.specs.declared.kind.Kind.TheVariants.{Bno, Cnt, Rmap, Refc, Ino, Fino}

-- a new btree of n records has so many blocks, on some number of levels
abbrev pub IsTreeOf : Kind → ℕ → ℕ → Type 0
IsTreeOf kind n blocks = (levels : ℕ) × IsShape kind n levels blocks

-- two of these, with so many blocks together
pub record AreTreesOf (kind other : Kind) (n m blocks : ℕ) : Type 0 where
  pub first : ℕ
  pub second : ℕ
  pub one : IsTreeOf kind n first
  pub two : IsTreeOf other m second
  pub sum : blocks ≡ first + second

-- the btrees of the unit, of these numbers of records, have so many blocks; a unit of one btree has no second
abbrev pub IsNeed : ScrubUnit → ℕ → ℕ → ℕ → Type 0
IsNeed units.Inode n m blocks = AreTreesOf Ino Fino n m blocks
IsNeed units.Rmap n m blocks = IsTreeOf Rmap n blocks
IsNeed units.Free n m blocks = AreTreesOf Bno Cnt n m blocks
IsNeed units.Refc n m blocks = IsTreeOf Refc n blocks

-- only one number is that
abbrev pub OneNeed : Type 0
OneNeed = (unit : ScrubUnit) (n m blocks others : ℕ) → IsNeed unit n m blocks → IsNeed unit n m others → blocks ≡ others
