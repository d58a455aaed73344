-- What the inode btrees and the reverse mapping btree must hold is one list each.
use Rattle.std.specs.Prelude.{◌≡◌, ◌↔◌, ℕ, ◌/◌, ◌<◌, true, List, Contains}
use Rattle.geom.specs.Layout.{group_len_of}
use Rattle.ino_recs.specs.declared.chunk.InoRec.{InoRec}
use Rattle.rmap_recs.specs.Runs.{AreRuns}
use Rattle.rmap_recs.specs.declared.records.RmapRec.{RmapRec}
use Rattle.sblock.specs.Lists.{Rises}
use Rattle.fs_state.specs.Apart.{is_chunk}
use Rattle.fs_state.specs.State.{State}
use Rattle.fs_state.specs.Derive.{chunk_record, ino_of, fino_of}
use Rattle.fs_state.specs.Own.{rmap_of}
use Rattle.index_derive.specs.Owners.{AreOrderly, claimed_tuples}
use Rattle.std.specs.Prelude.{nat_lt, Bool}

-- by their first inodes
abbrev pub is_before : InoRec → InoRec → Bool
is_before r s = nat_lt r.startino s.startino

-- the record is that of a chunk of the group
pub record IsOfChunk (a : State) (g : ℕ) (r : InoRec) : Type 0 where
  pub unit : ℕ
  pub within : unit < group_len_of a.geometry g / 8
  pub chunk : is_chunk a g unit ≡ true
  pub same : r ≡ chunk_record a g unit

-- a record for each chunk, and no other, rising
pub record AreChunkRecords (a : State) (g : ℕ) (recs : List InoRec) : Type 0 where
  pub rising : Rises is_before recs
  pub each : (r : InoRec) → Contains recs r → IsOfChunk a g r
  pub all : (r : InoRec) → IsOfChunk a g r → Contains recs r

-- only one list is that
abbrev pub OnlyInodeRecords : Type 0
OnlyInodeRecords = (a : State) (g : ℕ) (recs : List InoRec) → AreChunkRecords a g recs ↔ (recs ≡ ino_of a g)

-- a record for each chunk with a free inode, and no other, rising
pub record AreFreeRecords (a : State) (g : ℕ) (recs : List InoRec) : Type 0 where
  pub rising : Rises is_before recs
  pub each : (r : InoRec) → Contains recs r → IsOfChunk a g r × (0 < r.freecount)
  pub all : (r : InoRec) → IsOfChunk a g r → 0 < r.freecount → Contains recs r

abbrev pub OnlyFreeRecords : Type 0
OnlyFreeRecords = (a : State) (g : ℕ) (recs : List InoRec) → AreFreeRecords a g recs ↔ (recs ≡ fino_of a g)

-- the maximal runs of the claims on a group's blocks are only one list
abbrev pub OnlyReverseMappings : Type 0
OnlyReverseMappings = (a : State) (g : ℕ) (recs : List RmapRec) → AreOrderly (claimed_tuples a g) → AreRuns (claimed_tuples a g) recs ↔ (recs ≡ rmap_of a g)
