-- The blocks that are kept, as a list of number and block, the most recently used first.
use Rattle.std.specs.Prelude.{◌≡◌, ◌⊎◌, ℕ, List, [], Option, Some, None, IfSome, nat_eq}
use Rattle.std.specs.Map.{lookup}
use Rattle.blk_device.specs.Contents.{Contents}
use Rattle.blk_device.specs.declared.device.Region.TheVariants.{Image}
use Rattle.byte_fields.specs.declared.block.Block.{Block}
use Rattle.lru.specs.LruCache.{LruCache, lru_cache, put_entries}

abbrev pub Entries : Type 0
Entries = List (ℕ × Block)

-- the bytes of an entry that was looked up
abbrev pub bytes_in : Option Block → Option (List ℕ)
bytes_in None = None
bytes_in (Some block) = Some block.bytes

-- the bytes that are kept of a block
abbrev pub kept_in : Entries → ℕ → Option (List ℕ)
kept_in entries at = bytes_in (lookup (nat_eq at) entries)

-- what a map of bounded size holds, nothing where there is no map
abbrev pub entries_in : Option (LruCache ℕ Block) → Entries
entries_in None = []
entries_in (Some blocks) = blocks.entries

-- how many blocks may be kept
abbrev pub capacity_in : Option (LruCache ℕ Block) → ℕ
capacity_in None = 0
capacity_in (Some blocks) = blocks.cap

-- This block is in front, and what was kept of it has gone. Where there are too many, the one
-- that was used longest ago has gone too.
abbrev pub in_front : ℕ → Block → ℕ → Entries → Entries
in_front at block capacity entries = put_entries nat_eq (lru_cache entries capacity) at block

-- The block is in front. Where nothing of it was kept, all may stay as it was.
abbrev pub KeepsIn : ℕ → Block → ℕ → Entries → Entries → Type 0
KeepsIn at block capacity old new = (new ≡ in_front at block capacity old) ⊎ ((kept_in old at ≡ None) × (new ≡ old))

-- each image block that is kept has these contents' bytes
abbrev pub AgreesIn : Entries → Contents → Type 0
AgreesIn entries contents = (at : ℕ) → IfSome (kept_in entries at) (λ bytes. contents Image at ≡ bytes)
