-- What the first allocated inode of some chunks is: the least of a range.
use Rattle.std.specs.Prelude.{◌≡◌, ◌<◌, ◌≤◌, ℕ, ◌+◌, false, List, Contains, MatchOption}
use Rattle.ino_recs.specs.Chunks.{ino_form}
use Rattle.ino_recs.specs.declared.chunk.InoRec.{InoRec}
use Rattle.sblock.specs.Blocks.{IsRising, AllInside}
use Rattle.sblock.specs.declared.block.Bounds.{Bounds}
use Rattle.inode_scan.specs.Chunk.{is_free, first_in}

-- the number, relative to the group, is that of an allocated inode of these chunks
abbrev pub IsAllocatedIn : List InoRec → ℕ → Type 0
IsAllocatedIn rs n = (r : InoRec) × (s : ℕ) × Contains rs r × (s < 64) × (is_free r s ≡ false) × (r.startino + s ≡ n)

-- it is the least such number in the range
pub record IsLeast (from end : ℕ) (rs : List InoRec) (n : ℕ) : Type 0 where
  pub there : IsAllocatedIn rs n
  pub low : from ≤ n
  pub high : n < end
  pub least : (k : ℕ) → IsAllocatedIn rs k → from ≤ k → k < end → n ≤ k

abbrev pub IsNone : ℕ → ℕ → List InoRec → Type 0
IsNone from end rs = (k : ℕ) → IsAllocatedIn rs k → from ≤ k → k < end → ⊥

-- of chunks in the order and the range of their btree, the first one is the least, and none is found where there is none
abbrev pub FirstIsLeast : Type 0
FirstIsLeast = (bounds : Bounds) (from end : ℕ) (rs : List InoRec) → IsRising ino_form rs → AllInside ino_form bounds rs → MatchOption (first_in from end rs) (IsNone from end rs) (λ n. IsLeast from end rs n)
