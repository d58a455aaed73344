-- What a piece of the reserving does.
use Rattle.std.specs.Prelude.{◌≡◌, ◌⊎◌, ℕ, ◌+◌, ◌<◌, ◌≤◌, ◌^◌, nat_le, Bool, true, false, List, [], ◌∷◌, ◌++◌, length}
use Rattle.std.specs.List.Sorted.{IsPermutation}
use Rattle.fs_model.specs.declared.unit.Unit.{Unit as ScrubUnit}
use Rattle.fs_model.specs.declared.verdict.Reason.{Reason}
use Rattle.fs_model.specs.declared.verdict.Reason.TheVariants.{Space}
use Rattle.group_trees.specs.declared.group.GroupTrees.{GroupTrees}
use Rattle.unit_plan.specs.Need.{IsNeed}
use Rattle.unit_plan.specs.Sets.{pieces_of}
use Rattle.unit_plan.specs.declared.piece.Piece.{Piece}
use Rattle.unit_plan.specs.declared.spare.SpaceTrust.{SpaceTrust}
use Rattle.core_units.specs.declared.lists.Lists.{Lists}
use Rattle.core_units.specs.Choices.{IsChoice, is_spare_for}
use Rattle.core_units.specs.Fit.{first_number, second_number}
use Rattle.core_units.specs.TreesFit.{CanTake}
use Rattle.core_units.specs.Taken.{HasTaken, reserve_piece_of}
use Rattle.core_units.specs.declared.choice.Choice.{Choice}
use Rattle.core_units.specs.declared.choice.Choice.TheVariants.{Listed, Spare, NoBlock}
use Rattle.core_units.specs.declared.reserve.Building.{Building}

-- Spare blocks can be taken from the lists, and the reserve never gets more blocks than have numbers.
pub record IsBuilding (b : Building) : Type 0 where
  pub lists : CanTake b.lists
  pub few : length b.reserve.items + b.left < 2 ^ 32

-- the unit needs so many blocks for these lists
abbrev pub NeedsOf : ScrubUnit → Lists → ℕ → Type 0
NeedsOf unit list n = IsNeed unit (first_number list) (second_number list) n

-- the block came from free space, or from the list
abbrev pub choice_of : Bool → ℕ → Choice
choice_of true block = Spare block
choice_of false block = Listed block

-- a block of free space is claimed and taken out of the lists; one of the free list changes neither
abbrev pub IsNoted : ScrubUnit → ℕ → Bool → (old new : Building) → Type 0
IsNoted unit block true old new = IsPermutation (pieces_of old.set ++ reserve_piece_of unit block ∷ []) (pieces_of new.set) × HasTaken unit block old.lists new.lists
IsNoted unit block false old new = IsPermutation (pieces_of old.set) (pieces_of new.set) × (new.lists ≡ old.lists)

-- this block is put behind the reserve, and whether the need is met is said of the lists as they are now
pub record IsTaken (block : ℕ) (spare is_met : Bool) (old new : Building) : Type 0 where
  pub same : new.unit ≡ old.unit
  pub behind : new.reserve.items ≡ old.reserve.items ++ block ∷ []
  pub one_less : new.left + 1 ≡ old.left
  pub noted : IsNoted old.unit block spare old new
  pub met : (need : ℕ) × NeedsOf old.unit new.lists need × (is_met ≡ nat_le need (length new.reserve.items))

-- nothing changes but the order of the claims
pub record StaysAs (old new : Building) : Type 0 where
  pub same : new.unit ≡ old.unit
  pub behind : new.reserve ≡ old.reserve
  pub as_many : new.left ≡ old.left
  pub lists : new.lists ≡ old.lists
  pub claims : IsPermutation (pieces_of old.set) (pieces_of new.set)

-- the choice among the blocks that can be taken now
abbrev pub IsChosen : SpaceTrust → List ℕ → GroupTrees → Building → Choice → Type 0
IsChosen trust list trees old choice = IsChoice (is_spare_for old.unit trust trees old.lists (pieces_of old.set)) list choice

-- the reserve has as many blocks as the unit needs for its lists, or it hasn't
abbrev pub IsEnough : Building → Type 0
IsEnough b = (need : ℕ) × NeedsOf b.unit b.lists need × (need ≤ length b.reserve.items)

abbrev pub IsTooFew : Building → Type 0
IsTooFew b = (need : ℕ) × NeedsOf b.unit b.lists need × (length b.reserve.items < need)

-- too few blocks, and so many are needed
abbrev pub IsShort : Building → Reason → Type 0
IsShort b (Space reserve need) = (reserve ≡ length b.reserve.items) × NeedsOf b.unit b.lists need
IsShort b reason = ⊥
