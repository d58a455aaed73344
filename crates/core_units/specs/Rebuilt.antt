-- What always holds of a rebuild, and what its events keep.
use Rattle.std.specs.Prelude.{◌≡◌, ◌⊎◌, ⊤, ℕ, ◌<◌, ◌≤◌, ◌^◌, List, [], ◌∷◌, ◌++◌, length, map, All}
use Rattle.fs_model.specs.declared.verdict.Reason.{Reason}
use Rattle.geom.specs.Layout.{Layout, group_len_of}
use Rattle.group_trees.specs.declared.group.GroupTrees.{GroupTrees}
use Rattle.run_sets.specs.Runs.{AreMaximal}
use Rattle.unit_plan.specs.Sets.{pieces_of}
use Rattle.unit_plan.specs.declared.spare.SpaceTrust.{SpaceTrust}
use Rattle.core_units.specs.TreesFit.{AreLoadable, CanSpareBy, EndInGroup, HaveTotals}
use Rattle.core_units.specs.Trees.{AreSeenSound}
use Rattle.core_units.specs.Reserved.{IsBuilding, IsChosen, IsEnough, IsShort, IsTooFew}
use Rattle.sblock.specs.declared.block.Frame.{Frame}
use Rattle.core_units.specs.Staged.{HaveTrees, frame_at}
use Rattle.core_units.specs.Tested.{FreeEnds, RunsWithin}
use Rattle.core_units.specs.declared.choice.Choice.TheVariants as choices
use Rattle.core_units.specs.declared.rebuild.Next.{Next}
use Rattle.core_units.specs.declared.rebuild.Next.TheVariants.{Met, GaveUp, Listed, Spare}
use Rattle.core_units.specs.declared.rebuild.Rebuild.{Rebuild}
use Rattle.core_units.specs.declared.reserve.Building.{Building}

-- What holds whatever was reserved: spare blocks can be looked for and taken, all blocks that are reserved or lost lie
-- in the group, which isn't longer than any group may be, and no two lost runs touch.
pub record IsSteady (r : Rebuild) : Type 0 where
  pub built : IsBuilding r.building
  pub spare : CanSpareBy r.trees
  pub within : EndInGroup r.length r.trees
  pub ends : FreeEnds r.length r.building.lists
  pub inside : All (λ b. b < r.length) r.building.reserve.items
  pub short : r.length ≤ 268435456
  pub lost : AreMaximal 0 r.lost.items × RunsWithin r.length r.lost.items

-- a rebuild of a unit of group g
pub record IsRebuilding (at : Layout) (g : ℕ) (r : Rebuild) : Type 0 where
  pub group : r.group ≡ g
  pub length : r.length ≡ group_len_of at g
  pub trees : AreSeenSound at g r.trees
  pub steady : IsSteady r

-- all but what is reserved stays
pub record KeepsRest (old new : Rebuild) : Type 0 where
  pub group : new.group ≡ old.group
  pub length : new.length ≡ old.length
  pub lsn : new.lsn ≡ old.lsn
  pub trees : new.trees ≡ old.trees
  pub chunks : new.chunks ≡ old.chunks
  pub owners : new.owners ≡ old.owners
  pub lost : new.lost ≡ old.lost
  pub unit : new.building.unit ≡ old.building.unit

-- What is to be done next: nothing, where the reserve has as many blocks as the unit needs; else one block more may be
-- taken, and this one is chosen; given up is where none may be taken, or none is to be had.
abbrev pub IsNext : SpaceTrust → List ℕ → GroupTrees → Building → Next → Type 0
IsNext trust list trees b Met = IsEnough b
IsNext trust list trees b (GaveUp reason) = IsTooFew b × ((b.left ≡ 0) ⊎ IsChosen trust list trees b choices.NoBlock) × IsShort b reason
IsNext trust list trees b (Listed block) = IsTooFew b × (0 < b.left) × IsChosen trust list trees b (choices.Listed block)
IsNext trust list trees b (Spare block) = IsTooFew b × (0 < b.left) × IsChosen trust list trees b (choices.Spare block)

-- a spare block lies below the limit
abbrev pub IsSpareBelow : ℕ → Next → Type 0
IsSpareBelow limit Met = ⊤
IsSpareBelow limit (GaveUp reason) = ⊤
IsSpareBelow limit (Listed block) = ⊤
IsSpareBelow limit (Spare block) = block < limit

-- The lists can be loaded on the reserve, and their counters written.
pub record IsReady (r : Rebuild) : Type 0 where
  pub steady : IsSteady r
  pub loadable : AreLoadable r.building.lists
  pub enough : HaveTrees r.building.lists (length r.building.reserve.items)
  pub totals : HaveTotals r.building.lists

pub record IsReserved (at : Layout) (g : ℕ) (r : Rebuild) : Type 0 where
  pub rebuilding : IsRebuilding at g r
  pub ready : IsReady r

-- what the heads of its new blocks say
abbrev pub frame_in : Layout → Rebuild → Frame
frame_in at r = frame_at at r.group r.lsn
