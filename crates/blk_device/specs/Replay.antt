-- What a crash leaves of the calls that no sync followed, by a choice for each.
use Rattle.std.specs.Prelude.{ℕ, ◌/◌, ◌%◌, ◌==◌, not, Bool, false, List, [], ◌∷◌, ◌++◌, length, take, drop, ◌||◌, unwrap_or, slice_get, if◌then◌else◌}
use Rattle.blk_device.specs.Calls.{seen_after, settle}
use Rattle.blk_device.specs.Contents.{Contents, put, same_region}
use Rattle.blk_device.specs.declared.device.Region.{Region}
use Rattle.blk_device.specs.declared.record.Call.{Call}
use Rattle.blk_device.specs.declared.record.Call.TheVariants.{Wrote, Doubted, Synced}
use Rattle.blk_device.specs.declared.unsynced.Unsynced.{Unsynced}
use Rattle.blk_device.specs.declared.unsynced.Unsynced.TheVariants.{Absent, Present, Torn}

-- the choices in turn, again from the first where they end
abbrev pub choice_of : List Unsynced → ℕ → Unsynced
choice_of choices i = unwrap_or (slice_get choices (i % length choices)) Absent

-- the bytes that a crash leaves of a write over old bytes
abbrev pub outcome : Unsynced → List ℕ → List ℕ → List ℕ
outcome Absent new old = old
outcome Present new old = new
outcome Torn new old = take 2048 new ++ drop 2048 old

-- the contents with what a crash leaves of a call
abbrev pub replayed : Unsynced → Call → Contents → Contents
replayed left (Wrote r at block) c = put r at (outcome left block.bytes (c r at)) c
replayed left (Doubted r at block) c = put r at (outcome left block.bytes (c r at)) c
replayed left (Synced r) c = c

-- what a crash leaves after these calls, the newest first: a sync settles what is read
abbrev pub left_by : List Unsynced → Contents → List Call → Contents
left_by choices first [] = first
left_by choices first (Wrote r at block ∷ earlier) = replayed (choice_of choices (length earlier)) (Wrote r at block) (left_by choices first earlier)
left_by choices first (Doubted r at block ∷ earlier) = replayed (choice_of choices (length earlier)) (Doubted r at block) (left_by choices first earlier)
left_by choices first (Synced r ∷ earlier) = settle r (seen_after first earlier) (left_by choices first earlier)

-- one of these calls syncs the region
abbrev pub synced_in : Region → List Call → Bool
synced_in s [] = false
synced_in s (Wrote r at block ∷ rest) = synced_in s rest
synced_in s (Doubted r at block ∷ rest) = synced_in s rest
synced_in s (Synced r ∷ rest) = same_region s r || synced_in s rest

-- what a crash leaves of a call that these follow: a write that was synced is there, and one that failed isn't
abbrev pub left_of : Call → List Call → Unsynced → Unsynced
left_of (Wrote r at block) rest choice = if synced_in r rest then Present else choice
left_of (Doubted r at block) rest choice = if synced_in r rest then Absent else choice
left_of (Synced r) rest choice = Absent

-- a write, done or failed, that no sync of its region followed
abbrev pub in_doubt : Call → List Call → Bool
in_doubt (Wrote r at block) rest = not (synced_in r rest)
in_doubt (Doubted r at block) rest = not (synced_in r rest)
in_doubt (Synced r) rest = false

-- the lowest bit tells whether a write stands
abbrev pub lowest_choice : ℕ → Unsynced
lowest_choice bits = if bits % 2 == 1 then Present else Absent

-- a choice for each call, the first call first: each bit in turn, from the lowest on, tells of the next write in doubt
abbrev pub choices_by : ℕ → List Call → List Unsynced
choices_by bits [] = []
choices_by bits (call ∷ rest) = if in_doubt call rest then lowest_choice bits ∷ choices_by (bits / 2) rest else Absent ∷ choices_by bits rest
