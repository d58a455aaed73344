-- How the block of a number gets into a transaction.
use Rattle.std.specs.Prelude.{◌≡◌, ◌<◌, ℕ, true, false, List, length, Option, Some, None, is_some, if◌then◌else◌}
use Rattle.blk_cache.specs.Cache.{kept}
use Rattle.blk_cache.specs.declared.cache.BlkCache.{BlkCache}
use Rattle.blk_device.specs.Causes.{one_more}
use Rattle.blk_device.specs.Contents.{Contents, Holds}
use Rattle.blk_device.specs.declared.device.Region.TheVariants.{Image}
use Rattle.redo_area.specs.Area.{Batch}
use Rattle.meta_txn.specs.Joined.{Joined, bytes_at, with_block, Finds}
use Rattle.meta_txn.specs.Places.{place, is_there, bytes_in, set_bytes}

-- the device's count of reads after a read through the cache: no more where the cache keeps the block
abbrev pub reads_after : BlkCache → ℕ → ℕ → ℕ
reads_after cache at before = if is_some (kept cache at) then before else one_more before

-- the number is joined, in this place
pub record IsFound (at i : ℕ) (blocks : Batch) : Type 0 where
  pub place : i ≡ place at blocks
  pub there : is_there at blocks ≡ true
  pub bytes : bytes_at at blocks ≡ Some (bytes_in i blocks)

-- the number isn't joined, and belongs in this place
pub record IsAbsent (at i : ℕ) (blocks : Batch) : Type 0 where
  pub place : i ≡ place at blocks
  pub apart : is_there at blocks ≡ false
  pub none : bytes_at at blocks ≡ None

-- the block that a device holds was put in, in this place
pub record IsReadIn (at i : ℕ) (told : Option Contents) (old new : Joined) : Type 0 where
  pub place : i ≡ place at old.blocks
  pub bytes : List ℕ
  pub holds : Holds Image at bytes told
  pub blocks : new.blocks ≡ with_block at bytes old.blocks
  pub marked : new.marked ≡ old.marked

-- The block of this number stands in this place, with the bytes that a join finds, and other bytes there are
-- other bytes of this number alone.
pub record IsEntered (at i : ℕ) (told : Option Contents) (old new : Joined) : Type 0 where
  pub bound : i < length new.blocks
  pub bytes : Finds at old.blocks told (bytes_in i new.blocks)
  pub left : (bytes : List ℕ) → set_bytes i bytes new.blocks ≡ with_block at bytes old.blocks
  pub marked : new.marked ≡ old.marked
