-- The shape of a new tree: how many blocks each level has, and what each of them holds.
-- A level of n items, of which a block holds m at most, has as few blocks as can hold them, and these
-- hold equally many but for one: the first n mod b of b blocks have one item more.
use Rattle.std.specs.Prelude.{◌≡◌, ℕ, zero, suc, ◌+◌, ◌-◌, ◌*◌, ◌/◌, ◌%◌, ◌^◌, ◌==◌, nat_lt, false, ◌<◌, ◌≤◌, if◌then◌else◌, min}
use Rattle.std.specs.Int.{div_ceil}
use Rattle.bulk_load.specs.declared.rows.Row.{Row}
use Rattle.sblock.specs.Blocks.{most_of, least_of}
use Rattle.sblock.specs.Kinds.{leaf_most_of, node_most_of}
use Rattle.sblock.specs.declared.kind.Kind.{Kind}

-- what block i of b blocks for n items holds
unfoldable pub share : ℕ → ℕ → ℕ → ℕ
share n b i = n / b + (if nat_lt i (n % b) then 1 else 0)

-- the first item of block i
unfoldable pub first_of : ℕ → ℕ → ℕ → ℕ
first_of n b i = i * (n / b) + min i (n % b)

-- the sum of the first n numbers
unfoldable pub total : ℕ → (ℕ → ℕ) → ℕ
total zero f = 0
total (suc n) f = total n f + f n

-- the leaves for n records, at least one
unfoldable pub leaves_for : Kind → ℕ → ℕ
leaves_for kind n = if n == 0 then 1 else div_ceil n (leaf_most_of kind)

module _ (kind : Kind) (n : ℕ) where
  -- the blocks of level j of a tree of n records; leaves are level 0
  unfoldable pub width : ℕ → ℕ
  width zero = leaves_for kind n
  width (suc j) = div_ceil (width j) (node_most_of kind)

  -- what the blocks of level j hold together: the records, or the blocks of the level below
  unfoldable pub items : ℕ → ℕ
  items zero = n
  items (suc j) = width j

  -- the blocks of all levels below level j
  unfoldable pub start : ℕ → ℕ
  start zero = 0
  start (suc j) = start j + width j

  -- what block i of level j holds, and the first of that
  unfoldable pub count : ℕ → ℕ → ℕ
  count j i = share (items j) (width j) i

  unfoldable pub begin : ℕ → ℕ → ℕ
  begin j i = first_of (items j) (width j) i

  -- the first record below block i of level j
  unfoldable pub first_record : ℕ → ℕ → ℕ
  first_record zero i = begin zero i
  first_record (suc j) i = first_record j (begin (suc j) i)

  -- a level has another above it while it has several blocks
  abbrev pub HasLevel : ℕ → Type 0
  HasLevel level = (j : ℕ) → j < level → 2 ≤ width j

  -- the levels of the tree, the last of which has one block, and the blocks of all of them
  pub record IsShape (levels blocks : ℕ) : Type 0 where
    pub some : 1 ≤ levels
    pub below : HasLevel (levels - 1)
    pub top : width (levels - 1) ≡ 1
    pub all : blocks ≡ start levels

  -- these are the numbers of level j
  pub record IsRow (j : ℕ) (row : Row) : Type 0 where
    pub holds : row.items ≡ items j
    pub wide : row.width ≡ width j
    pub starts : row.start ≡ start j

abbrev pub LevelsHoldAll : Type 0
LevelsHoldAll = (kind : Kind) (n j : ℕ) → total (width kind n j) (count kind n j) ≡ items kind n j

abbrev pub LevelsAreAll : Type 0
LevelsAreAll = (kind : Kind) (n levels blocks : ℕ) → IsShape kind n levels blocks → total levels (width kind n) ≡ blocks

abbrev pub HoldNotTooMuch : Type 0
HoldNotTooMuch = (kind : Kind) (n j i : ℕ) → count kind n j i ≤ most_of kind (j == 0)

abbrev pub HoldEnough : Type 0
HoldEnough = (kind : Kind) (n j i : ℕ) → 2 ≤ width kind n j → least_of kind (j == 0) false ≤ count kind n j i

abbrev pub HasFewLevels : Type 0
HasFewLevels = (kind : Kind) (n levels blocks : ℕ) → IsShape kind n levels blocks → blocks < 2 ^ 32 → levels ≤ 6
