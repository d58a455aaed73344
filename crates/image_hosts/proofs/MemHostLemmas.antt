-- Images in memory that are handed out as devices and come back.
use Rattle.std.proofs.Common.{◌≡◌, ℕ, List, Some, refl, ap}
use Rattle.std.specs.Ordering.{nat_cmp}
use Rattle.std.specs.BTreeMap.{BTreeMap, is_at}
use Rattle.std.specs.Map.{lookup}
use Rattle.byte_fields.specs.declared.block.Block.{Block}
use Rattle.blk_device.specs.Stored.{stored, with_stored, bytes_or_zeros}
use Rattle.blk_device.specs.declared.device.Region.{Region}
use Rattle.blk_device.specs.declared.device.Region.TheVariants.{Image, Redo}
use Rattle.image_hosts.specs.Stored.{Stored, no_redo, opened}

pub same_blocks : (a b : BTreeMap ℕ Block) → b.entries ≡ a.entries → (n : ℕ) → stored b n ≡ stored a n
same_blocks a b e n = ap (λ (es : List (ℕ × Block)). bytes_or_zeros (lookup (is_at (nat_cmp n)) es)) e

-- a device over a copy of an image has that image
pub opened_copy : (size : ℕ) (a b : BTreeMap ℕ Block) → b.entries ≡ a.entries → with_stored b ≡ opened (record { size = size; at = stored a }) no_redo
opened_copy size a b e = λ i r n. at_region r n i
  where
    at_region : (r : Region) (n : ℕ) → with_stored b r n ≡ opened (record { size = size; at = stored a }) no_redo r n
    at_region Image n = same_blocks a b e n
    at_region Redo n = refl

abbrev file : ℕ → (ℕ → List ℕ) → Stored
file size held = record { size = size; at = held }

-- an image that reads as a device's is the device's
pub came_back : (size n : ℕ) (blocks : BTreeMap ℕ Block) (held : ℕ → List ℕ) → size ≡ n → ((b : ℕ) → stored blocks b ≡ held b)
    → Some (file size (stored blocks)) ≡ Some (file n held)
came_back size n blocks held same reads = λ i. Some (file (same i) (λ b. reads b i))
