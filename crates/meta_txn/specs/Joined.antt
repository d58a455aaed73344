-- The blocks of a transaction.
use Rattle.std.specs.Prelude.{◌≡◌, ◌<◌, ◌≤◌, ◌^◌, Bool, true, ℕ, suc, nat_eq, nat_lt, ◌==◌, ◌&&◌, is_some, not, if◌then◌else◌, List, [], ◌∷◌, length, Option, None, unwrap_or, MatchOption, ⊤}
use Rattle.std.specs.Map.{lookup}
use Rattle.blk_device.specs.Contents.{Contents, Holds}
use Rattle.blk_device.specs.declared.device.Region.TheVariants.{Image}
use Rattle.redo_area.specs.declared.TheConstants.{MAX_BATCH}
use Rattle.redo_area.specs.Area.{Batch, Blocks, homes_of}
use Rattle.redo_area.specs.Table.{rises}

-- what a transaction stands for: the joined blocks, and those that were joined at the last mark, both rising by number
pub record Joined : Type 0 where
  pub blocks : Batch
  pub marked : Batch

-- nothing is joined, and there is no mark
abbrev pub empty : Joined
empty = record { blocks = []; marked = [] }

-- the bytes that are joined at this number
abbrev pub bytes_at : ℕ → Batch → Option (List ℕ)
bytes_at at blocks = lookup (nat_eq at) blocks

-- the blocks with these bytes at this number, in its place among the rising numbers
abbrev pub with_block : ℕ → List ℕ → Batch → Batch
with_block at bytes [] = (at, bytes) ∷ []
with_block at bytes (p ∷ ps) =
    if nat_lt p.0 at then p ∷ with_block at bytes ps
    else (if p.0 == at then (at, bytes) ∷ ps else (at, bytes) ∷ p ∷ ps)

-- the image with the joined blocks: the bytes that are joined at a number, and the image's where none are
abbrev pub written : Blocks → Joined → Blocks
written image txn b = unwrap_or (bytes_at b txn.blocks) (image b)

-- what a commit makes of an image
abbrev pub written_by : Joined → Blocks → Blocks
written_by txn image = written image txn

-- each block has 4,096 bytes
abbrev pub AreWhole : Batch → Type 0
AreWhole [] = ⊤
AreWhole (p ∷ ps) = (length p.1 ≡ 4096) × AreWhole ps

-- what is joined always is a batch: few enough blocks, each whole, with rising numbers of 64 bits
pub record IsBatch (blocks : Batch) : Type 0 where
  pub few : length blocks ≤ MAX_BATCH
  pub rise : rises 0 (2 ^ 64) (homes_of blocks) ≡ true
  pub whole : AreWhole blocks

-- each number is below the size
abbrev pub AreBelow : ℕ → Batch → Type 0
AreBelow size [] = ⊤
AreBelow size (p ∷ ps) = (p.0 < size) × AreBelow size ps

-- so is each number that is joined, and each at the mark
abbrev pub IsInside : ℕ → Joined → Type 0
IsInside size txn = AreBelow size txn.blocks × AreBelow size txn.marked

-- a join of this number reads the block: it isn't joined, and there is room for it
abbrev pub reads_block : ℕ → Batch → Bool
reads_block at blocks = not (is_some (bytes_at at blocks)) && nat_lt (length blocks) MAX_BATCH

-- a join of this number would make so many blocks, more than a batch has
abbrev pub WouldBe : ℕ → Batch → ℕ → Type 0
WouldBe at blocks n = (bytes_at at blocks ≡ None) × (n ≡ suc (length blocks)) × (MAX_BATCH < n)

-- the bytes that a join finds: those that are joined, or else the device's, where it tells them
abbrev pub Finds : ℕ → Batch → Option Contents → List ℕ → Type 0
Finds at blocks told bytes = MatchOption (bytes_at at blocks) (Holds Image at bytes told) (λ joined. bytes ≡ joined)
