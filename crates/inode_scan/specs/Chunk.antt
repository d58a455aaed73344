-- Which inodes of a chunk are allocated, and the lowest of them in a range of numbers (XFS Algorithms and Data Structures,
-- "Inode B+trees").
use Rattle.std.specs.Prelude.{ℕ, zero, suc, ◌+◌, ◌/◌, ◌%◌, ◌^◌, ◌==◌, nat_le, nat_lt, Bool, ◌&&◌, not, if◌then◌else◌, List, [], ◌∷◌, Option, Some, None}
use Rattle.ino_recs.specs.declared.chunk.InoRec.{InoRec}

-- the bit of an inode is set where it is free
unfoldable pub is_free : InoRec → ℕ → Bool
is_free r s = r.free / 2 ^ s % 2 == 1

-- the first that there is
abbrev pub or_else : {A : Type 0} → Option A → Option A → Option A
or_else None other = other
or_else (Some a) other = Some a

module _ (from end : ℕ) where
  -- the inode is allocated, and its number, relative to the group, lies in the range
  unfoldable pub is_sought : InoRec → ℕ → Bool
  is_sought r s = nat_le from (r.startino + s) && nat_lt (r.startino + s) end && not (is_free r s)

  -- the lowest such number of n inodes from one on
  unfoldable pub first_slot : InoRec → ℕ → ℕ → Option ℕ
  first_slot r zero s = None
  first_slot r (suc n) s = if is_sought r s then Some (r.startino + s) else first_slot r n (s + 1)

  -- of the 64 inodes of a chunk
  unfoldable pub first_of : InoRec → Option ℕ
  first_of r = first_slot r 64 0

  -- of the first chunk that has one
  unfoldable pub first_in : List InoRec → Option ℕ
  first_in [] = None
  first_in (r ∷ rs) = or_else (first_of r) (first_in rs)
