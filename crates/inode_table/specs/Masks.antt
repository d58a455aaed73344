-- The mask of free inodes of a chunk, and what both btrees have of it ("Inode B+trees").
use Rattle.std.specs.Prelude.{◌≡◌, ◌<◌, ◌-◌, ◌*◌, ◌^◌, ◌==◌, ℕ, Option, Some, None, if◌then◌else◌}
use Rattle.std.specs.Int.{bit_at}
use Rattle.ino_recs.specs.declared.chunk.InoRec.{InoRec}

-- the inode at this place of the chunk is free
pub record IsFree (r : InoRec) (slot : ℕ) : Type 0 where
  pub inside : slot < 64
  pub set : bit_at r.free slot ≡ 1

-- What has the btree of chunks with free inodes of a chunk? Its record, where an inode of it is free.
abbrev pub fino_of : InoRec → Option InoRec
fino_of r = if r.freecount == 0 then None else Some r

-- What is the record of a chunk that was never used? 64 inodes from its first block on, all free.
abbrev pub unused_chunk : ℕ → InoRec
unused_chunk block = record { startino = 8 * block; holemask = 0; count = 64; freecount = 64; free = 2 ^ 64 - 1 }
