-- An inode that is taken or given back, a chunk that was never used, and their cores: as rules have them, and as steps do.
use Rattle.std.specs.Prelude.{◌≡◌, ◌≢◌, ◌<◌, ◌+◌, ◌-◌, ℕ, Bool, true, false, List, ◌∷◌, ◌++◌, filter, not, Option, Some, None}
use Rattle.std.specs.Int.{bit_at}
use Rattle.std.specs.List.{list_any}
use Rattle.dinode_core.specs.declared.inode.Core3.{Core3}
use Rattle.fs_state.specs.Inodes.{whole_or}
use Rattle.ino_recs.specs.declared.chunk.InoRec.{InoRec}
use Rattle.inode_table.specs.Cores.{fresh_file, free_core, given_back}
use Rattle.inode_table.specs.Masks.{IsFree, fino_of, unused_chunk}
use Rattle.fs_change.specs.Changes.{core_with, file_mode, free_chunk, freed_core}
use Rattle.fs_change.specs.Choice.{lowest_bit}
use Rattle.fs_change.specs.Records.{follow_inode, has_inode, put_chunk, turn_inode, turned}

-- ---- a chunk's record

-- the rule's record once the bit at this place is so: so many inodes are free, and all else is as it was
pub record IsTurned (r new : InoRec) (slot bit freecount : ℕ) : Type 0 where
  pub only : new ≡ record r { freecount = freecount; free = new.free }
  pub turned : bit_at new.free slot ≡ bit
  pub others : (i : ℕ) → i ≢ slot → bit_at new.free i ≡ bit_at r.free i

-- an inode that is taken is the one that a step turns, and so is one that is given back
abbrev pub TakesInode : Type 0
TakesInode = (r new : InoRec) (slot : ℕ) → IsFree r slot → IsTurned r new slot 0 (r.freecount - 1) → new ≡ turned false (r.startino + slot) r

abbrev pub GivesInode : Type 0
GivesInode = (r new : InoRec) (slot : ℕ) → bit_at r.free slot ≡ 0 → IsTurned r new slot 1 (r.freecount + 1) → new ≡ turned true (r.startino + slot) r

-- the lowest free inode of a chunk is the one that a step takes, and none where that takes none
abbrev pub FindsLowest : Type 0
FindsLowest = (r : InoRec) (slot : ℕ) → IsFree r slot → ((i : ℕ) → i < slot → bit_at r.free i ≡ 0) → lowest_bit r ≡ Some (r.startino + slot)

abbrev pub FindsNone : Type 0
FindsNone = (r : InoRec) → r.free ≡ 0 → lowest_bit r ≡ None

-- ---- both btrees

-- the records with one more, where there is one
abbrev pub with_listed : Option InoRec → List InoRec → List InoRec
with_listed None rs = rs
with_listed (Some r) rs = put_chunk r rs

-- a chunk's new record stands in the place of its old one, and what the rule says of the other btree is all that it has of
-- the chunk
pub record TurnsBoth (to_free : Bool) (i : ℕ) (before : List InoRec) (r : InoRec) (behind finos : List InoRec) : Type 0 where
  pub ino : turn_inode to_free i (before ++ r ∷ behind) ≡ before ++ turned to_free i r ∷ behind
  pub fino : follow_inode i (turn_inode to_free i (before ++ r ∷ behind)) finos ≡ with_listed (fino_of (turned to_free i r)) (filter (λ s. not (has_inode i s)) finos)

-- where no other chunk has the inode
abbrev pub TurnsAlike : Type 0
TurnsAlike =
    (to_free : Bool) (i : ℕ) (before : List InoRec) (r : InoRec) (behind finos : List InoRec) → has_inode i r ≡ true
    → list_any (has_inode i) before ≡ false → list_any (has_inode i) behind ≡ false → TurnsBoth to_free i before r behind finos

-- a chunk that is made
abbrev pub MakesAlike : Type 0
MakesAlike = (block : ℕ) → unused_chunk block ≡ free_chunk block

-- ---- cores

-- the core of a new file, of an inode that is given back, and of one that was never taken
pub record CoresAlike (core : Core3) (uid ino : ℕ) (uuid : List ℕ) : Type 0 where
  pub file : whole_or None (fresh_file core uid) ≡ core_with file_mode uid
  pub back : Some (whole_or None (given_back core)) ≡ freed_core (Some (whole_or None core))
  pub never : whole_or None (free_core ino uuid) ≡ core_with 0 0
