-- How many blocks are read at most for reverse mappings, and for all units, where the device tells its content.
use Rattle.std.specs.Prelude.{◌≡◌, ℕ, ◌-◌, List, [], ◌∷◌, Option, None, Some, Result}
use Rattle.blk_device.specs.Contents.{Contents}
use Rattle.blk_device.specs.declared.device.Region.TheVariants as regions
use Rattle.check_phases.specs.Kept.{KeepsEvents, KeepsTold, come, kept_event, phase_kept}
use Rattle.check_phases.specs.Phases.{Mappings, lacks_inodes, lacks_nothing}
use Rattle.check_phases.specs.Session.{check_events}
use Rattle.check_phases.specs.declared.part.Part.{Part}
use Rattle.check_phases.specs.declared.tally.Tally.{Tally}
use Rattle.fs_state.specs.Session.{unit_order}
use Rattle.fs_model.specs.declared.entry.Entry.{Entry}
use Rattle.fs_model.specs.declared.unit.Unit.{Unit as ScrubUnit}
use Rattle.fs_model.specs.declared.unit.Unit.TheVariants as units
use Rattle.fs_state.specs.Kinds.{Image}
use Rattle.geom.specs.Layout.{Layout}
use Rattle.group_trees.specs.Counted.{trees_most}
use Rattle.inode_pass.specs.Units.{opened_state}
use Rattle.inode_pass.specs.declared.note.GroupInodes.{GroupInodes}
use Rattle.mapping_check.specs.Mapped.{HasForks}
use Rattle.space_check.specs.Events.{Event}
use Rattle.space_check.specs.declared.halt.Halt.{Halt}
use Rattle.unit_plan.specs.Sets.{pieces_of}
use Rattle.unit_plan.specs.declared.claims.ClaimSet.{ClaimSet}
use Rattle.image_check.specs.Image.{ReadsForEvents, bounded, image_events}
use Rattle.image_check.specs.Mappings.{IsReady}
use Rattle.image_check.specs.Reads.{most_read}

-- ---- reverse mappings, once all forks were read

-- the six btrees of the group alone
abbrev pub trees_only : Layout → Image → ℕ → ScrubUnit → ℕ
trees_only at image g unit = trees_most at image g

abbrev pub mapping_kept : Layout → Image → ℕ → Event
mapping_kept at image g = kept_event (trees_only at image) (opened_state at image) g None units.Rmap

-- of a group, where these are its chunks, and this set has the claims of all forks in it
abbrev pub KeepsClaims : {T : Type 0} → Layout → Option Contents → ℕ → List ℕ → ClaimSet → Tally → ℕ → Tally → ℕ → Result T Halt → Type 0
KeepsClaims at told g us set before reads after reads' result =
    (c : Contents) → told ≡ Some c → HasForks at (c regions.Image) g us (pieces_of set) → KeepsEvents (mapping_kept at (c regions.Image) g ∷ []) (come before reads) (come after reads') result

-- where that holds of the group's chunks and set
abbrev pub KeepsReady : {T : Type 0} → Layout → Option Contents → ℕ → List GroupInodes → List ClaimSet → Tally → ℕ → Tally → ℕ → Result T Halt → Type 0
KeepsReady at told g inodes sets before reads after reads' result =
    (c : Contents) → told ≡ Some c → IsReady at (c regions.Image) inodes sets g → KeepsEvents (mapping_kept at (c regions.Image) g ∷ []) (come before reads) (come after reads') result

-- those of n groups from group g on
abbrev pub mappings_kept : Layout → (g n : ℕ) → Image → List Event
mappings_kept at g n image = phase_kept (trees_only at image) (opened_state at image) Mappings lacks_nothing g n

abbrev pub KeepsMappings : {T : Type 0} → Layout → Option Contents → Part → Tally → ℕ → Tally → ℕ → Result T Halt → Type 0
KeepsMappings at told part before reads after reads' result = KeepsTold told (mappings_kept at part.from (part.to - part.from)) before reads after reads' result

-- ---- with all that is read before

-- those of all groups, where this is the first group whose inodes don't pass
abbrev pub all_kept : Layout → Option ℕ → Image → List Event
all_kept at fallen image = phase_kept (most_read at image) (opened_state at image) Mappings (lacks_inodes fallen) 0 at.agcount

abbrev pub KeepsAll : {T : Type 0} → Layout → Option Contents → Option ℕ → Tally → ℕ → Tally → ℕ → Result T Halt → Type 0
KeepsAll at told fallen before reads after reads' result = KeepsTold told (all_kept at fallen) before reads after reads' result

-- ---- all units

abbrev pub units_kept : Layout → Image → List Event
units_kept at image = bounded (most_read at image) (unit_order at.agcount) (check_events (opened_state at image))

abbrev pub KeepsUnits : {T : Type 0} → Layout → Option Contents → Tally → ℕ → Tally → ℕ → Result T Halt → Type 0
KeepsUnits at told before reads after reads' result = KeepsTold told (units_kept at) before reads after reads' result

-- ---- a whole image

abbrev pub KeepsImage : Layout → Option Contents → (before now : ℕ) → (journal : List Entry) → Type 0
KeepsImage at told before now journal = (c : Contents) → told ≡ Some c → ReadsForEvents (image_events at (c regions.Image)) before now journal
