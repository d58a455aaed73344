-- What a cache keeps, and when that is what a device holds.
use Rattle.std.specs.Prelude.{◌≡◌, ℕ, List, Option, IfSome}
use Rattle.byte_fields.specs.declared.block.Block.{Block}
use Rattle.blk_device.specs.Contents.{Contents}
use Rattle.blk_cache.specs.Entries.{Entries, entries_in, capacity_in, kept_in, KeepsIn, AgreesIn}
use Rattle.blk_cache.specs.declared.cache.BlkCache.{BlkCache}

-- the blocks that it keeps, the most recently used first
abbrev pub entries_of : BlkCache → Entries
entries_of cache = entries_in cache.blocks

-- how many blocks it may keep
abbrev pub capacity_of : BlkCache → ℕ
capacity_of cache = capacity_in cache.blocks

-- the bytes that it keeps of an image block
abbrev pub kept : BlkCache → ℕ → Option (List ℕ)
kept cache at = kept_in (entries_of cache) at

-- each image block that is kept has these contents' bytes
abbrev pub Agrees : BlkCache → Contents → Type 0
Agrees cache contents = AgreesIn (entries_of cache) contents

-- the same of a device's content, where that is told
abbrev pub AgreesTold : BlkCache → Option Contents → Type 0
AgreesTold cache told = IfSome told (Agrees cache)

-- the same blocks are kept, in the same order
abbrev pub Stays : BlkCache → BlkCache → Type 0
Stays old new = (capacity_of new ≡ capacity_of old) × (entries_of new ≡ entries_of old)

-- the block is kept in front with these bytes; where nothing of it was kept, it may stay so
abbrev pub KeepsInFront : ℕ → Block → BlkCache → BlkCache → Type 0
KeepsInFront at block old new = (capacity_of new ≡ capacity_of old) × KeepsIn at block (capacity_of old) (entries_of old) (entries_of new)
