-- Why a repair isn't begun, as sizes and bytes of a device decide it: the redo region, the superblock of the image that a
-- recovery leaves, the heads of all groups.
use Rattle.std.specs.Prelude.{◌≡◌, ⊤, ℕ, List, Option, Some, None, Result, Ok, Err}
use Rattle.std.specs.Option.{option_map}
use Rattle.ag_headers.specs.declared.fault.HeadFault.{HeadFault}
use Rattle.blk_device.specs.Contents.{Contents, map_told}
use Rattle.blk_device.specs.declared.device.Region.TheVariants.{Image}
use Rattle.fs_model.specs.declared.unit.Head.{Head}
use Rattle.geom.specs.Layout.{Layout, layout_of}
use Rattle.geom.specs.Superblock.{first_fault}
use Rattle.geom.specs.declared.fault.ImageFault.{ImageFault}
use Rattle.redo_area.specs.Area.{after_recovery}
use Rattle.redo_area.specs.Recover.{redo_fault}
use Rattle.redo_area.specs.declared.faults.RedoFault.{RedoFault}
use Rattle.redo_area.specs.declared.faults.RedoFault.TheVariants as redos
use Rattle.repair_door.specs.declared.no_entry.NoEntry.{NoEntry}
use Rattle.repair_door.specs.declared.no_entry.NoEntry.TheVariants as entries
use Rattle.space_check.specs.Checked.{bad_head_from, or_else}
use Rattle.space_check.specs.declared.halt.Halt.{Halt}
use Rattle.space_check.specs.declared.halt.Halt.TheVariants as halts

-- ---- what is tested, one after the other

abbrev pub redo_entry : RedoFault → NoEntry
redo_entry redos.Short = entries.Short
redo_entry redos.Count = entries.Count
redo_entry redos.Size = entries.Size
redo_entry redos.Place = entries.Place
redo_entry redos.Failed = entries.Failed

abbrev pub image_entry : ImageFault → NoEntry
image_entry fault = entries.Image fault

abbrev pub head_entry : ℕ × (Head × HeadFault) → NoEntry
head_entry bad = entries.Head bad.0 bad.1.0 bad.1.1

-- a journal that is full, which heads don't have, counts as want of memory
abbrev pub halt_entry : Halt → NoEntry
halt_entry (halts.Head g head fault) = entries.Head g head fault
halt_entry halts.Full = entries.Memory
halt_entry halts.Failed = entries.Failed
halt_entry halts.Memory = entries.Memory

-- a redo region and an image of so many blocks
abbrev pub redo_refusal : (redo size : ℕ) → Contents → Option NoEntry
redo_refusal redo size m = option_map redo_entry (redo_fault redo size m)

abbrev pub superblock_refusal : (size : ℕ) → (ℕ → List ℕ) → Option NoEntry
superblock_refusal size image = option_map image_entry (first_fault (image 0) size)

abbrev pub heads_refusal : Layout → (ℕ → List ℕ) → Option NoEntry
heads_refusal at image = option_map head_entry (bad_head_from at image 0 at.agcount)

-- the superblock, then the heads of all groups
abbrev pub image_refusal : (size : ℕ) → (ℕ → List ℕ) → Option NoEntry
image_refusal size image = or_else (superblock_refusal size image) (heads_refusal (layout_of (image 0)) image)

-- the redo region, then the image that a recovery leaves
abbrev pub door_refusal : (redo size : ℕ) → Contents → Option NoEntry
door_refusal redo size m = or_else (redo_refusal redo size m) (image_refusal size (after_recovery m Image))

-- ---- what is answered

-- this is what decides; a failed device and want of memory may come in its place
abbrev pub IsDecided : (decided : Option NoEntry) → NoEntry → Type 0
IsDecided decided entries.Failed = ⊤
IsDecided decided entries.Memory = ⊤
IsDecided decided why = decided ≡ Some why

abbrev pub PassesBy : {T : Type 0} → (decided : Option NoEntry) → Result T NoEntry → Type 0
PassesBy decided (Ok done) = decided ≡ None
PassesBy decided (Err why) = IsDecided decided why

-- What a refusal leaves: where the redo region is refused, all as it was; else what a recovery makes of it. Of a device
-- that failed nothing is said.
abbrev pub Leaves : (old new : Option Contents) → NoEntry → Type 0
Leaves old new entries.Short = new ≡ old
Leaves old new entries.Count = new ≡ old
Leaves old new entries.Size = new ≡ old
Leaves old new entries.Place = new ≡ old
Leaves old new entries.Failed = ⊤
Leaves old new why = new ≡ map_told after_recovery old
