-- What a device in memory tells beside what each device tells.
use Rattle.std.specs.Prelude.{◌≡◌, ℕ, List, Bool, Contains, reverse, if◌then◌else◌}
use Rattle.blk_device.specs.Causes.{one_more}
use Rattle.blk_device.specs.Contents.{Contents, same_region}
use Rattle.blk_device.specs.Recorded.{keeps_block, reads_kept, CountsRead, KeepsWritten, KeepsCounts}
use Rattle.blk_device.specs.Replay.{left_by, choices_by}
use Rattle.blk_device.specs.Stored.{with_stored}
use Rattle.blk_device.specs.declared.unsynced.Unsynced.{Unsynced}
use Rattle.blk_device.specs.declared.device.Region.{Region}
use Rattle.blk_device.specs.declared.device.Region.TheVariants.{Image}
use Rattle.blk_device.specs.declared.memory.MemDevice.{MemDevice}

-- how many blocks a region has
abbrev pub size_of : MemDevice → Region → ℕ
size_of d r = if same_region r Image then d.image else d.redo

-- how many reads, writes and syncs were asked of it
abbrev pub calls_asked : MemDevice → ℕ
calls_asked d = d.asked

-- the numbers of the calls that fail
abbrev pub failing_calls : MemDevice → List ℕ
failing_calls d = d.failing.items

-- a write failed and there was no memory to keep in the record that its block is in doubt
abbrev pub has_lost_doubt : MemDevice → Bool
has_lost_doubt d = d.lost

-- what a crash leaves, of each call that no sync followed as the choices say
abbrev pub left_after_crash : List Unsynced → MemDevice → Contents
left_after_crash choices d = left_by choices (with_stored d.log.base) (reverse d.log.calls.items)

-- what a crash leaves where each bit of the number, from the lowest on, tells whether the next write in doubt stands
abbrev pub left_keeping : ℕ → MemDevice → Contents
left_keeping keep d = left_after_crash (choices_by keep d.log.calls.items) d

-- the next read, write or sync is one of those that fail
abbrev pub FailsNext : MemDevice → Type 0
FailsNext d = Contains (failing_calls d) (calls_asked d)

-- one call was asked, and the same calls fail
abbrev pub AskedOnce : MemDevice → MemDevice → Type 0
AskedOnce old new = (calls_asked new ≡ one_more (calls_asked old)) × (failing_calls new ≡ failing_calls old)

-- an image block that it was made with, or that was written since
abbrev pub holds_block : MemDevice → ℕ → Bool
holds_block d b = keeps_block d.log b

-- how often an image read of a block answered Ok
abbrev pub reads_of : MemDevice → ℕ → ℕ
reads_of d b = reads_kept d.log b

-- a read counts at its image block, where it answers Ok and the device holds that block
abbrev pub TalliesRead : Bool → Region → ℕ → MemDevice → MemDevice → Type 0
TalliesRead done region at old new = CountsRead done region at old.log new.log

-- a write of an image block that answers Ok makes the device hold it, and no read counts
abbrev pub TalliesWrite : Bool → Region → ℕ → MemDevice → MemDevice → Type 0
TalliesWrite done region at old new = KeepsWritten done region at old.log new.log

-- it holds the same blocks, and no read counts
abbrev pub SameTally : MemDevice → MemDevice → Type 0
SameTally old new = KeepsCounts old.log new.log
