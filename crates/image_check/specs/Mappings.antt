-- How the reverse mappings of groups are checked, once the forks of all inodes were read.
use Rattle.std.specs.Prelude.{ℕ, ◌+◌, ◌*◌, ◌-◌, ◌<◌, All, List, Option, None, Result}
use Rattle.check_phases.specs.Checks.{ChecksPhase, ChecksUnit}
use Rattle.check_phases.specs.Phases.{Mappings, lacks_nothing}
use Rattle.check_phases.specs.declared.part.Part.{Part}
use Rattle.check_phases.specs.declared.tally.Tally.{Tally}
use Rattle.fork_pass.specs.Passed.{units_at}
use Rattle.fork_pass.specs.Sets.{pieces_at}
use Rattle.fs_state.specs.Session.{Place}
use Rattle.fs_model.specs.declared.unit.Unit.TheVariants as units
use Rattle.fs_state.specs.Kinds.{Image}
use Rattle.fs_state.specs.State.{State}
use Rattle.geom.specs.Layout.{Layout, group_len_of}
use Rattle.inode_pass.specs.Units.{opened_state}
use Rattle.inode_pass.specs.declared.note.GroupInodes.{GroupInodes}
use Rattle.mapping_check.specs.Mapped.{HasForks}
use Rattle.space_check.specs.declared.halt.Halt.{Halt}
use Rattle.unit_plan.specs.Sets.{pieces_of}
use Rattle.unit_plan.specs.declared.claims.ClaimSet.{ClaimSet}

-- these units lie in their group
abbrev pub LieIn : Layout → ℕ → List ℕ → Type 0
LieIn at g us = All (λ u. 8 * u + 7 < group_len_of at g) us

-- the reverse mappings of a group, by the state that the image stands for right after it was opened
abbrev pub ChecksMapping : {T : Type 0} → Layout → Image → ℕ → (before after : Tally) → Result T Halt → Type 0
ChecksMapping at image g before after result = ChecksUnit (opened_state at image) None g units.Rmap before after result

-- where these are the chunks of the group, and this set has the claims of all forks in it, of which none is bad
abbrev pub MappingsDone : {T : Type 0} → Layout → Image → ℕ → List ℕ → ClaimSet → (before after : Tally) → Result T Halt → Type 0
MappingsDone at image g us set before after result = HasForks at image g us (pieces_of set) → ChecksMapping at image g before after result

-- that holds of a group's chunks and set
abbrev pub IsReady : Layout → Image → List GroupInodes → List ClaimSet → ℕ → Type 0
IsReady at image inodes sets g = HasForks at image g (units_at inodes g) (pieces_at sets g)

-- where it does, the group's reverse mappings are checked
abbrev pub ReadyDone : {T : Type 0} → Layout → Image → List GroupInodes → List ClaimSet → ℕ → (before after : Tally) → Result T Halt → Type 0
ReadyDone at image inodes sets g before after result = IsReady at image inodes sets g → ChecksMapping at image g before after result

-- and of those of each group
abbrev pub AreReady : Layout → Image → List GroupInodes → List ClaimSet → Type 0
AreReady at image inodes sets = (g : ℕ) → g < at.agcount → IsReady at image inodes sets g

-- the reverse mappings of these groups, each skipped where it lacks a unit
abbrev pub ChecksPart : {T : Type 0} → State → (ℕ → Option Place) → Part → (before after : Tally) → Result T Halt → Type 0
ChecksPart a lacks part before after result = ChecksPhase a Mappings lacks part.from (part.to - part.from) before after result

-- by the state that the image stands for, none of them skipped
abbrev pub ChecksMappings : {T : Type 0} → Layout → Image → Part → (before after : Tally) → Result T Halt → Type 0
ChecksMappings at image part before after result = ChecksPart (opened_state at image) lacks_nothing part before after result
