-- What each step of the pass tells, where the device tells its content.
use Rattle.std.specs.Prelude.{◌≡◌, ℕ, ◌+◌, ◌≤◌, true, All, List, Option, Some, None, Result, IfOk}
use Rattle.blk_device.specs.Contents.{Contents}
use Rattle.blk_device.specs.declared.device.Region.TheVariants.{Image}
use Rattle.dinode_core.specs.Core.{core_fault}
use Rattle.dinode_core.specs.Frame.{fork_in}
use Rattle.dinode_core.specs.declared.inode.Core3.{Core3}
use Rattle.dinode_core.specs.declared.mapping.Fork.{Fork}
use Rattle.dinode_core.specs.declared.mapping.ForkFault.{ForkFault}
use Rattle.fs_state.specs.Chunks.{chunks}
use Rattle.fs_model.specs.declared.claim.Evidence.{Evidence}
use Rattle.fs_state.specs.Apart.{is_chunk}
use Rattle.geom.specs.Layout.{Layout}
use Rattle.inode_pass.specs.Notes.{notes_of}
use Rattle.inode_pass.specs.Units.{opened_state}
use Rattle.inode_pass.specs.declared.note.ForkNote.{ForkNote}
use Rattle.inode_pass.specs.declared.note.GroupInodes.{GroupInodes}
use Rattle.inode_pass.specs.declared.stop.PassStop.{PassStop}
use Rattle.unit_plan.specs.declared.claims.ClaimSet.{ClaimSet}
use Rattle.fork_pass.specs.Counted.{forks_most, notes_most, pieces_most}
use Rattle.fork_pass.specs.Passed.{AreChunks, AreNotes, InodesPassed, IsInChunk, NotesPassed, group_inodes, inodes_from, notes_at, units_at}
use Rattle.fork_pass.specs.Read.{Come, HasTaken, IsForkRead, IsSlotRead, slot_fork}
use Rattle.fork_pass.specs.declared.fork.ForkRead.{ForkRead}
use Rattle.fork_pass.specs.declared.fork.Met.{Met}

-- behind the pieces that came, one more came, or one is refused ..
abbrev pub TakesPiece : Layout → Option Contents → Core3 → Fork → ℕ → List ClaimSet → Met → ℕ → Result (Option ForkFault) PassStop → List ClaimSet → Met → ℕ → Type 0
TakesPiece at told core fork from sets met reads result sets' met' reads' = IfOk result (λ found. (c : Contents) → told ≡ Some c
    → (first : List ClaimSet) (before : ℕ) → met.next ≡ Some from → Come at (c Image) core fork first sets met before reads
    → HasTaken at (c Image) core fork first sets' met' before reads' found)

-- .. and the pieces have read no more blocks, whatever ended the last one
abbrev pub CountsPiece : Layout → Option Contents → Core3 → Fork → ℕ → List ClaimSet → Met → ℕ → ℕ → Type 0
CountsPiece at told core fork from sets met reads reads' = (c : Contents) → told ≡ Some c
    → (first : List ClaimSet) (before : ℕ) → met.next ≡ Some from → Come at (c Image) core fork first sets met before reads
    → reads' ≤ before + pieces_most at (c Image) core fork

-- a fork was read
abbrev pub SeesFork : Layout → Option Contents → Core3 → Fork → List ClaimSet → Result ForkRead PassStop → List ClaimSet → Type 0
SeesFork at told core fork old result new = IfOk result (λ read. (c : Contents) → told ≡ Some c
    → IsForkRead at (c Image) core fork old new read)

-- both forks of the inode of this number were read, whose core this is, or that has these bytes
abbrev pub SeesAllocated : Layout → Option Contents → Core3 → ℕ → List ClaimSet → Result (Option Evidence) PassStop → List ClaimSet → Type 0
SeesAllocated at told core ino old result new = IfOk result (λ found. (c : Contents) → told ≡ Some c
    → core.ino ≡ ino → IsSlotRead at ino (fork_in at (c Image) core) old new found)

abbrev pub SeesSlot : Layout → Option Contents → List ℕ → ℕ → List ClaimSet → Result (Option Evidence) PassStop → List ClaimSet → Type 0
SeesSlot at told bytes ino old result new = IfOk result (λ found. (c : Contents) → told ≡ Some c
    → core_fault bytes ino at.uuid ≡ None → IsSlotRead at ino (slot_fork at (c Image) bytes) old new found)

-- these inodes of a unit that is a chunk are passed
abbrev pub PassesChunk : Layout → Option Contents → ℕ → ℕ → List ℕ → List ClaimSet → Result (Option Evidence) PassStop → List ClaimSet → Type 0
PassesChunk at told g u inos old result new = IfOk result (λ found. (c : Contents) → told ≡ Some c
    → is_chunk (opened_state at (c Image)) g u ≡ true → InodesPassed (opened_state at (c Image)) inos old new found)

-- so is what these notes of a group stand for, whose blocks lie in chunks ..
abbrev pub PassesNotes : Layout → Option Contents → ℕ → List ForkNote → List ClaimSet → Result (Option Evidence) PassStop → List ClaimSet → Type 0
PassesNotes at told g notes old result new = IfOk result (λ found. (c : Contents) → told ≡ Some c
    → All (IsInChunk (opened_state at (c Image)) g) notes → NotesPassed (opened_state at (c Image)) g notes old new found)

-- .. and the inodes of a group and of all groups, of which the chunks and the notes were kept
abbrev pub PassesGroup : Layout → Option Contents → ℕ → List GroupInodes → List ClaimSet → Result (Option Evidence) PassStop → List ClaimSet → Type 0
PassesGroup at told g inodes old result new = IfOk result (λ found. (c : Contents) → told ≡ Some c
    → units_at inodes g ≡ chunks (opened_state at (c Image)) g → notes_at inodes g ≡ notes_of at (c Image) g (units_at inodes g)
    → InodesPassed (opened_state at (c Image)) (group_inodes at g (units_at inodes g)) old new found)

abbrev pub PassesGroups : Layout → Option Contents → List GroupInodes → List ClaimSet → Result (Option Evidence) PassStop → List ClaimSet → Type 0
PassesGroups at told inodes old result new = IfOk result (λ found. (c : Contents) → told ≡ Some c
    → AreChunks (opened_state at (c Image)) inodes → AreNotes at (c Image) inodes
    → InodesPassed (opened_state at (c Image)) (inodes_from at inodes 0 at.agcount) old new found)

-- each step of the pass reads no more blocks than this, whatever ends it
abbrev pub CountsMost : Option Contents → (Contents → ℕ) → ℕ → ℕ → Type 0
CountsMost told most before now = (c : Contents) → told ≡ Some c → now ≤ before + most c

-- no more than what these notes of a group stand for asks for, nor than those of all groups
abbrev pub CountsNotes : Layout → Option Contents → ℕ → List ForkNote → ℕ → ℕ → Type 0
CountsNotes at told g notes before now = CountsMost told (λ c. notes_most at (c Image) g notes) before now

abbrev pub CountsForks : Layout → Option Contents → List GroupInodes → ℕ → ℕ → Type 0
CountsForks at told inodes before now = CountsMost told (λ c. forks_most at (c Image) (notes_at inodes)) before now
