-- The need and the spare blocks of a unit, as they are planned and as a step of a repair has them.
use Rattle.std.specs.Prelude.{◌≡◌, ◌↔◌, ◌<◌, ◌≤◌, ◌^◌, ℕ, Option, IfSome, length}
use Rattle.fs_change.specs.Choice.{is_spare, spare_block}
use Rattle.fs_change.specs.Switch.{need, need_of, prepared}
use Rattle.fs_state.specs.Derive.{derive}
use Rattle.fs_model.specs.declared.unit.Unit.{Unit as ScrubUnit}
use Rattle.fs_model.specs.declared.unit.Unit.TheVariants as units
use Rattle.fs_state.specs.State.{State}
use Rattle.geom.specs.Layout.{group_len_of}
use Rattle.sblock.specs.declared.kind.Kind.{Kind}
use Rattle.sblock.specs.declared.kind.Kind.TheVariants.{Bno, Cnt, Rmap, Refc, Ino, Fino}
use Rattle.unit_plan.specs.Laws.{is_spare_in}
use Rattle.unit_plan.specs.Need.{IsNeed, IsTreeOf}
use Rattle.unit_plan.specs.Spare.{IsLowest}

-- each block is spare for both or for neither
abbrev pub SpareAgrees : Type 0
SpareAgrees = (a : State) (g : ℕ) (unit : ScrubUnit) (b : ℕ) → is_spare_in a g unit b ≡ is_spare a g unit b

-- the lowest one that lies in the group, or none at all, is the one that the step takes
abbrev pub LowestAgrees : Type 0
LowestAgrees = (a : State) (g : ℕ) (unit : ScrubUnit) (lowest : Option ℕ)
    → IsLowest (is_spare_in a g unit) lowest → IfSome lowest (λ b. b < group_len_of a.geometry g) → lowest ≡ spare_block a g unit

-- the blocks of a new btree of n records, where they are as few as a group can have
abbrev pub TreeNeedAgrees : Type 0
TreeNeedAgrees = (kind : Kind) (n blocks : ℕ) → blocks < 2 ^ 32 → IsTreeOf kind n blocks ↔ (blocks ≡ need_of kind n)

-- a btree of more records needs no fewer blocks
abbrev pub NeedRises : Type 0
NeedRises = (kind : Kind) (n m : ℕ) → n ≤ m → need_of kind n ≤ need_of kind m

-- the list of this kind that the unit's switch would derive has n records
abbrev pub IsListed : State → ℕ → ScrubUnit → Kind → ℕ → Type 0
IsListed a g unit kind n = n ≡ length (derive (prepared a g unit) g kind)

-- these are the numbers of records of the unit's lists; a unit of one btree has no second
abbrev pub AreListed : State → ℕ → ScrubUnit → ℕ → ℕ → Type 0
AreListed a g units.Inode n m = IsListed a g units.Inode Ino n × IsListed a g units.Inode Fino m
AreListed a g units.Rmap n m = IsListed a g units.Rmap Rmap n
AreListed a g units.Free n m = IsListed a g units.Free Bno n × IsListed a g units.Free Cnt m
AreListed a g units.Refc n m = IsListed a g units.Refc Refc n

-- for them the planned need is that of the switch
abbrev pub NeedAgrees : Type 0
NeedAgrees = (a : State) (g : ℕ) (unit : ScrubUnit) (n m blocks : ℕ) → AreListed a g unit n m → blocks < 2 ^ 32 → IsNeed unit n m blocks ↔ (blocks ≡ need a g unit)
