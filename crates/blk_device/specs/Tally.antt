-- Blocks by number, with how often each was read.
use Rattle.std.specs.Prelude.{◌≡◌, ℕ, Bool, true, false, ◌==◌, ◌&&◌, if◌then◌else◌, is_some, unwrap_or}
use Rattle.std.specs.Ordering.{nat_cmp}
use Rattle.std.specs.BTreeMap.{BTreeMap, get}
use Rattle.byte_fields.specs.declared.block.Block.{Block}
use Rattle.blk_device.specs.Causes.{one_more}

-- the map has something there
abbrev pub has : {X : Type 0} → BTreeMap ℕ X → ℕ → Bool
has m b = is_some (get nat_cmp m b)

-- the count of a block, 0 where none is kept
abbrev pub count_of : BTreeMap ℕ ℕ → ℕ → ℕ
count_of counts b = unwrap_or (get nat_cmp counts b) 0

-- each block that is there has a count
abbrev pub HasCounts : BTreeMap ℕ Block → BTreeMap ℕ ℕ → Type 0
HasCounts blocks counts = (b : ℕ) → has blocks b ≡ true → has counts b ≡ true

-- where there is no block, nothing was counted
abbrev pub CountsOnly : BTreeMap ℕ Block → BTreeMap ℕ ℕ → Type 0
CountsOnly blocks counts = (b : ℕ) → has blocks b ≡ false → count_of counts b ≡ 0

-- one read more of this block, if it is there
abbrev pub OneRead : BTreeMap ℕ Block → ℕ → BTreeMap ℕ ℕ → BTreeMap ℕ ℕ → Type 0
OneRead blocks at old new = (b : ℕ) → count_of new b ≡ (if (b == at) && has blocks at then one_more (count_of old b) else count_of old b)
