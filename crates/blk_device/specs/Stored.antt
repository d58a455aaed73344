-- What a map from block numbers to blocks stands for.
use Rattle.std.specs.Prelude.{◌≡◌, ℕ, List, length, Option, Some, None}
use Rattle.std.proofs.lemmas.List.{length-replicate}
use Rattle.std.specs.Ordering.{nat_cmp}
use Rattle.std.specs.BTreeMap.{BTreeMap, get}
use Rattle.byte_fields.specs.Zeros.{zeros}
use Rattle.byte_fields.specs.declared.block.Block.{Block}
use Rattle.blk_device.specs.Contents.{Contents}
use Rattle.blk_device.specs.declared.device.Region.{Region}
use Rattle.blk_device.specs.declared.device.Region.TheVariants.{Image, Redo}

abbrev pub bytes_or_zeros : Option Block → List ℕ
bytes_or_zeros None = zeros
bytes_or_zeros (Some block) = block.bytes

-- the bytes of a block, zeros where the map has none
abbrev pub stored : BTreeMap ℕ Block → ℕ → List ℕ
stored blocks b = bytes_or_zeros (get nat_cmp blocks b)

-- zeros throughout
abbrev pub blank : Contents
blank r b = zeros

-- an image of these blocks, and a redo region of zeros
abbrev pub with_stored : BTreeMap ℕ Block → Contents
with_stored blocks Image b = stored blocks b
with_stored blocks Redo b = zeros

zeros_whole : length zeros ≡ 4096
unfolding zeros
zeros_whole = length-replicate {A = ℕ} 4096 0

block_whole : (kept : Option Block) → length (bytes_or_zeros kept) ≡ 4096
block_whole None = zeros_whole
block_whole (Some block) = block.whole

-- each of these blocks has 4,096 bytes
pub stored_whole : (blocks : BTreeMap ℕ Block) (r : Region) (b : ℕ) → length (with_stored blocks r b) ≡ 4096
stored_whole blocks Image b = block_whole (get nat_cmp blocks b)
stored_whole blocks Redo b = zeros_whole
