-- What a block that is reserved keeps of its own group.
use Rattle.std.specs.Prelude.{◌≡◌, ℕ, ◌/◌, Bool, true, false, List, [], ◌∷◌}
use Rattle.std.specs.List.{list_any}
use Rattle.fs_change.specs.Step.{Step}
use Rattle.fs_model.specs.declared.entry.Entry.TheVariants as entries
use Rattle.fs_model.specs.declared.unit.Unit.{Unit as ScrubUnit}
use Rattle.fs_model.specs.declared.unit.Unit.TheVariants as units
use Rattle.fs_state.specs.Apart.{is_chunk}
use Rattle.fs_state.specs.Group.{is_among}
use Rattle.fs_state.specs.State.{State}
use Rattle.geom.specs.Apart.{HasFitting}
use Rattle.sblock.specs.declared.kind.Kind.{Kind}
use Rattle.sblock.specs.declared.kind.Kind.TheVariants.{Bno, Cnt, Rmap}
use Rattle.law_repairs.specs.Repair.Letters.{Stands}
use Rattle.law_repairs.specs.Repair.Moves.{SameChunks}
use Rattle.law_repairs.specs.Move.Order.{IsInOrder}

-- Does a block that the first unit reserves end what is known of the second? From the first spare block on of a rebuild of
-- free space, or of reverse mappings, nothing is known of that unit until its switch, though its reserve be released: the
-- block has an owner while free space lists it, or has left free space without one. So a rebuild of reverse mappings also
-- ends what is known of free space.
abbrev pub ends_known : ScrubUnit → Bool → ScrubUnit → Bool
ends_known units.Free true units.Free = true
ends_known units.Rmap true units.Rmap = true
ends_known units.Rmap true units.Free = true
ends_known own spare unit = false

-- the trees whose edits keep a unit as it should be; one that is left is marked right behind the entry
abbrev pub kept_by_edits : ScrubUnit → List Kind
kept_by_edits units.Inode = []
kept_by_edits units.Rmap = Rmap ∷ []
kept_by_edits units.Free = Bno ∷ Cnt ∷ Rmap ∷ []
kept_by_edits units.Refc = []

abbrev pub AreMade : List Kind → ScrubUnit → Type 0
AreMade left unit = list_any (λ k. is_among k left) (kept_by_edits unit) ≡ false

-- each other unit of the group is kept, whoever reserves the block, and wherever it was
abbrev pub ReservedKeepsOwn : Type 0
ReservedKeepsOwn = (a b : State) (left : List Kind) (g : ℕ) (own : ScrubUnit) (block : ℕ) (spare : Bool) (unit : ScrubUnit) → HasFitting a.geometry
    → Step a left (entries.Reserved g own block spare) b → SameChunks a b → is_chunk a g (block / 8) ≡ false → IsInOrder a g → IsInOrder b g
    → ends_known own spare unit ≡ false → AreMade left unit → Stands a g unit → Stands b g unit
