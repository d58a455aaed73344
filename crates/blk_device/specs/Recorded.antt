-- What a record of calls stands for, and how it grows.
use Rattle.std.specs.Prelude.{◌≡◌, ◌++◌, [], ◌∷◌, ℕ, Bool, length, reverse, if◌then◌else◌, ◌&&◌, ◌||◌, ◌==◌}
use Rattle.blk_device.specs.Calls.{seen_after, MayHold, MayHaveHeld}
use Rattle.blk_device.specs.Causes.{one_more}
use Rattle.blk_device.specs.Contents.{Contents, same_region}
use Rattle.blk_device.specs.Stored.{with_stored}
use Rattle.blk_device.specs.Tally.{has, count_of}
use Rattle.blk_device.specs.declared.device.Region.{Region}
use Rattle.blk_device.specs.declared.device.Region.TheVariants.{Image}
use Rattle.blk_device.specs.declared.record.Call.{Call}
use Rattle.blk_device.specs.declared.record.Record.{Record}

-- what is read
abbrev pub seen : Record → Contents
seen r = seen_after (with_stored r.base) (reverse r.calls.items)

-- what a crash now may leave
abbrev pub left_now : Record → Contents → Type 0
left_now r = MayHold (with_stored r.base) (reverse r.calls.items)

-- the moment: how many calls there were
abbrev pub moment : Record → ℕ
moment r = length (reverse r.calls.items)

-- what a crash since some moment may have left
abbrev pub left_since : Record → ℕ → Contents → Type 0
left_since r = MayHaveHeld (with_stored r.base) (reverse r.calls.items)

-- the record has one call more, if it could be kept
abbrev pub Adds : Bool → Call → Record → Record → Type 0
Adds kept call old new = (new.base ≡ old.base) × (new.calls.items ≡ (if kept then old.calls.items ++ call ∷ [] else old.calls.items))

-- no call was added
abbrev pub Stays : Record → Record → Type 0
Stays old new = (new.base ≡ old.base) × (new.calls.items ≡ old.calls.items)

-- an image block is kept, from the start or by a write
abbrev pub keeps_block : Record → ℕ → Bool
keeps_block r b = has r.image.blocks b

-- how often an image block was read
abbrev pub reads_kept : Record → ℕ → ℕ
reads_kept r b = count_of r.image.counts b

-- a write that was done keeps its image block, and counts no read
abbrev pub KeepsWritten : Bool → Region → ℕ → Record → Record → Type 0
KeepsWritten done region at old new =
    ((b : ℕ) → keeps_block new b ≡ ((done && (same_region region Image && (b == at))) || keeps_block old b)) × ((b : ℕ) → reads_kept new b ≡ reads_kept old b)

-- a read that was done is counted at its image block, where that is kept
abbrev pub CountsRead : Bool → Region → ℕ → Record → Record → Type 0
CountsRead done region at old new =
    ((b : ℕ) → keeps_block new b ≡ keeps_block old b)
    × ((b : ℕ) → reads_kept new b ≡ (if done && (same_region region Image && ((b == at) && keeps_block old at)) then one_more (reads_kept old b) else reads_kept old b))

-- no block more, and no read
abbrev pub KeepsCounts : Record → Record → Type 0
KeepsCounts old new = ((b : ℕ) → keeps_block new b ≡ keeps_block old b) × ((b : ℕ) → reads_kept new b ≡ reads_kept old b)
