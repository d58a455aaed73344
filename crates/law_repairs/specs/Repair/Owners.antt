-- The switches of free space and of reference counts keep who owns which block.
use Rattle.std.specs.Prelude.{◌≡◌, ◌⊎◌, ℕ, nat_lt, true, List}
use Rattle.std.specs.List.{list_all}
use Rattle.fs_change.specs.Step.{Step}
use Rattle.fs_change.specs.Switch.{unit_owner}
use Rattle.fs_state.specs.Claims.{claims}
use Rattle.fs_state.specs.Own.{own, rmap_of}
use Rattle.fs_model.specs.declared.entry.Entry.TheVariants as entries
use Rattle.fs_model.specs.declared.unit.Unit.{Unit as ScrubUnit}
use Rattle.fs_model.specs.declared.unit.Unit.TheVariants as units
use Rattle.fs_state.specs.State.{State}
use Rattle.geom.specs.Apart.{Splits}
use Rattle.geom.specs.Layout.{group_len_of}
use Rattle.rmap_recs.specs.Runs.{AreRuns, has}
use Rattle.rmap_recs.specs.declared.tuples.Tuple.{Tuple}
use Rattle.sblock.specs.declared.kind.Kind.{Kind}
use Rattle.law_repairs.specs.Repair.Letters.{Stands}

-- each claimed block lies in the group
abbrev pub LieInside : State → ℕ → Type 0
LieInside a g = list_all (λ c. nat_lt c.block (group_len_of a.geometry g)) (claims a g) ≡ true

-- this owner is no inode: its blocks have no offset
abbrev pub ArePlain : State → ℕ → ℕ → Type 0
ArePlain a g owner = (t : Tuple) → has (own a g) t ≡ true → t.owner ≡ owner → t.word ≡ 0

-- what always holds of a group's owners: they lie in it, the unit's owner is no inode, and what should be in the reverse
-- mappings are their maximal runs
pub record AreOwners (a : State) (g : ℕ) (unit : ScrubUnit) : Type 0 where
  pub inside : LieInside a g
  pub plain : ArePlain a g (unit_owner unit)
  pub runs : AreRuns (own a g) (rmap_of a g)

-- then the switches of these two units keep what is known of the reverse mappings: an old tree's blocks wait in limbo with
-- the owner that they had
abbrev pub SpaceKeepsMappings : Type 0
SpaceKeepsMappings = (a b : State) (left : List Kind) (g : ℕ) (unit : ScrubUnit) (root second : ℕ) → (unit ≡ units.Free) ⊎ (unit ≡ units.Refc) → Splits a.geometry
    → Step a left (entries.Switched g unit root second) b → AreOwners a g unit → Stands a g units.Rmap → Stands b g units.Rmap
