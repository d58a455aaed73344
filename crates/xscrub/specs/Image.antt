-- How the check of an image ends, as its bytes decide it: the superblock, the heads of all groups, and then the units of
-- all groups in the order of a session.
use Rattle.std.specs.Prelude.{ℕ, Bool, true, false, nat_lt, if◌then◌else◌, List, [], ◌∷◌, Option, Some, None}
use Rattle.blk_device.specs.Contents.{Contents}
use Rattle.blk_device.specs.declared.device.Region.TheVariants.{Image}
use Rattle.geom.specs.Layout.{Layout, layout_of}
use Rattle.geom.specs.Superblock.{first_fault}
use Rattle.geom.specs.declared.fault.ImageFault.{ImageFault}
use Rattle.image_check.specs.Image.{image_checked, image_events as groups_events}
use Rattle.redo_area.specs.Area.{is_open}
use Rattle.redo_area.specs.declared.TheConstants.{REDO_BLOCKS}
use Rattle.space_check.specs.Checked.{Checked, RefusedHead, Judged, Filled, look}
use Rattle.space_check.specs.Events.{Event}
use Rattle.xscrub.specs.Outcome.{Outcome, judged_outcome, filled_outcome, ended_outcome}
use Rattle.xscrub.specs.declared.ending.Status.TheVariants as statuses
use Rattle.xscrub.specs.declared.last_lines.LastLine.{LastLine}
use Rattle.xscrub.specs.declared.last_lines.LastLine.TheVariants as lines
use Rattle.xscrub.specs.declared.last_lines.RedoRefusal.{RedoRefusal}
use Rattle.xscrub.specs.declared.last_lines.RedoRefusal.TheVariants.{Short, Waiting}

abbrev pub refused : LastLine → Outcome
refused line = ended_outcome statuses.Refused line

-- heads that are refused, units that are judged, or a journal that was full before the last of them
abbrev pub checked_outcome : Checked → Outcome
checked_outcome (RefusedHead g head fault) = refused (lines.Head g head fault)
checked_outcome (Judged entries) = judged_outcome entries
checked_outcome (Filled entries) = filled_outcome entries

abbrev pub superblock_outcome : Layout → (ℕ → List ℕ) → Option ImageFault → Outcome
superblock_outcome at image (Some fault) = refused (lines.Image fault)
superblock_outcome at image None = checked_outcome (image_checked at image)

-- an image of so many blocks
unfoldable pub image_outcome : ℕ → (ℕ → List ℕ) → Outcome
image_outcome size image = superblock_outcome (layout_of (image 0)) image (first_fault (image 0) size)

-- ---- what is done for that

-- the check of the groups, where the superblock passes
abbrev pub superblock_events : Layout → (ℕ → List ℕ) → Option ImageFault → List Event
superblock_events at image (Some fault) = []
superblock_events at image None = groups_events at image

-- block 0 is read first
unfoldable pub image_events : ℕ → (ℕ → List ℕ) → List Event
image_events size image = look ∷ superblock_events (layout_of (image 0)) image (first_fault (image 0) size)

-- ---- with a redo file beside the image

-- what a check says of a redo region of so many blocks: that it is too short, or that a batch waits in it
abbrev pub redo_refusal : ℕ → Contents → Option RedoRefusal
redo_refusal size m = if nat_lt size REDO_BLOCKS then Some Short else (if is_open m then Some Waiting else None)

abbrev pub behind_redo : Option RedoRefusal → Outcome → Outcome
behind_redo None outcome = outcome
behind_redo (Some refusal) outcome = refused (lines.Redo refusal)

-- a device with so many blocks in its redo region and its image, whose redo file is looked at where one is given
abbrev pub device_outcome : (given : Bool) → (redo size : ℕ) → Contents → Outcome
device_outcome false redo size m = image_outcome size (m Image)
device_outcome true redo size m = behind_redo (redo_refusal redo m) (image_outcome size (m Image))

-- the gate is read before the image; a region that is too short isn't read
abbrev pub behind_gate : Option RedoRefusal → List Event → List Event
behind_gate None events = look ∷ events
behind_gate (Some Short) events = []
behind_gate (Some Waiting) events = look ∷ []

abbrev pub device_events : (given : Bool) → (redo size : ℕ) → Contents → List Event
device_events false redo size m = image_events size (m Image)
device_events true redo size m = behind_gate (redo_refusal redo m) (image_events size (m Image))
