-- How many blocks a search reads, against the chunks that it passes.
use Rattle.std.specs.Prelude.{ℕ, ◌+◌, ◌*◌, ◌≤◌, nat_le, Bool, true, false, List, [], ◌∷◌, Option, Some, None}
use Rattle.ino_recs.specs.Chunks.{ino_form}
use Rattle.ino_recs.specs.declared.chunk.InoRec.{InoRec}
use Rattle.tree_defs.specs.Sizes.{most_blocks}
use Rattle.tree_defs.specs.declared.site.Site.{Site}
use Rattle.tree_find.specs.Laws.{Holds}
use Rattle.inode_scan.specs.Chunk.{first_of}
use Rattle.inode_scan.specs.Search.{reads_in}

-- one chunk more where it has numbers of the range and no allocated inode there; the first with one ends the count
abbrev pub counted : Option ℕ → Bool → ℕ → ℕ
counted (Some n) reaches more = 0
counted None true more = 1 + more
counted None false more = more

module _ (from end : ℕ) where
  -- How many chunks does a search pass? Those that have numbers of the range, before the first with an allocated inode there.
  unfoldable pub passed_in : List InoRec → ℕ
  passed_in [] = 0
  passed_in (r ∷ rs) = counted (first_of from end r) (nat_le from (r.startino + 63)) (passed_in rs)

module _ (site : Site) (m : ℕ → List ℕ) (from end : ℕ) where
  -- In a readable tree a search reads at most two blocks a level, and 2 for 251 chunks that it passes: a leaf has 126 of them
  -- at least, and a node 252 blocks.
  abbrev pub ReadsFew : Type 0
  ReadsFew = (root levels : ℕ) (recs : List InoRec) → Holds ino_form site m root levels recs → 251 * reads_in site m from end root levels ≤ 502 * levels + 2 * passed_in from end recs

  -- so many chunks may be passed before the nodes beside their leaves are more than 1,024 blocks together with the way
  abbrev pub most_passed : ℕ
  most_passed = 32068764

  -- So it reads at most 1,024 blocks, and one more for each 126 chunks that it passes.
  abbrev pub ReadsInBounds : Type 0
  ReadsInBounds =
      (root levels : ℕ) (recs : List InoRec) → site.bounds.length ≤ most_blocks → Holds ino_form site m root levels recs → passed_in from end recs ≤ most_passed
      → 126 * reads_in site m from end root levels ≤ 126 * 1024 + passed_in from end recs
