-- What a run that is reaped keeps of its own group.
use Rattle.std.specs.Prelude.{ℕ, List}
use Rattle.fs_change.specs.Step.{Step}
use Rattle.fs_model.specs.declared.entry.Entry.TheVariants as entries
use Rattle.fs_model.specs.declared.entry.Extent.{Extent}
use Rattle.fs_model.specs.declared.unit.Unit.{Unit as ScrubUnit}
use Rattle.fs_model.specs.declared.unit.Unit.TheVariants as units
use Rattle.fs_state.specs.State.{State}
use Rattle.geom.specs.Apart.{HasFitting}
use Rattle.sblock.specs.declared.kind.Kind.{Kind}
use Rattle.law_repairs.specs.Repair.Letters.{Stands}
use Rattle.law_repairs.specs.Repair.Moves.{SameChunks}
use Rattle.law_repairs.specs.Move.Order.{IsInOrder}
use Rattle.law_repairs.specs.Reserve.Reserving.{AreMade}

-- a run joins free space where reverse mappings are known, which say that nobody else has a block of it
abbrev pub RestsOn : State → ℕ → ScrubUnit → Type 0
RestsOn a g units.Free = Stands a g units.Rmap
RestsOn a g unit = Unit {0}

-- The run leaves limbo and its owner's mappings and joins free space: what is known of each unit of the group is kept.
abbrev pub ReapedKeepsOwn : Type 0
ReapedKeepsOwn = (a b : State) (left : List Kind) (e : Extent) (unit : ScrubUnit) → HasFitting a.geometry
    → Step a left (entries.Reaped e) b → SameChunks a b → IsInOrder a e.group → IsInOrder b e.group
    → AreMade left unit → RestsOn a e.group unit → Stands a e.group unit → Stands b e.group unit
