-- How a group's inode btree is searched for the lowest allocated inode in a range: chunk by chunk in the order of the tree,
-- each block read once, from the last entry of each node on that may reach the range.
use Rattle.std.specs.Prelude.{◌≡◌, ℕ, zero, suc, ◌+◌, ◌-◌, ◌&&◌, nat_le, nat_lt, Bool, true, false, if◌then◌else◌, List, [], ◌∷◌, Option, Some, None, Result, Ok, Err, OnOk}
use Rattle.ino_recs.specs.Chunks.{ino_form}
use Rattle.ino_recs.specs.declared.chunk.InoKey.{InoKey}
use Rattle.ino_recs.specs.declared.chunk.InoRec.{InoRec}
use Rattle.sblock.specs.Area.{area_of}
use Rattle.sblock.specs.Blocks.{numrecs, records_of}
use Rattle.sblock.specs.Lists.{items_from}
use Rattle.sblock.specs.declared.block.BlockFault.{BlockFault}
use Rattle.sblock.specs.declared.block.BlockFault.TheVariants.{Range}
use Rattle.tree_defs.specs.Claims.{lone_fault}
use Rattle.tree_defs.specs.Tree.{Entry, entry_at, tested, top_of}
use Rattle.tree_defs.specs.declared.site.Site.{Site}
use Rattle.tree_blocks.specs.declared.tree.WalkFault.{WalkFault}
use Rattle.tree_find.specs.Laws.{Holds, WhereHolds}
use Rattle.tree_find.specs.Meets.{Meets}
use Rattle.tree_find.specs.Next.{start_of}
use Rattle.inode_scan.specs.Chunk.{first_in}

-- a call that answers has raised a count by this number
abbrev pub Rise : {X Y : Type 0} → Result X Y → ℕ → ℕ → ℕ → Type 0
Rise result old new n = OnOk result (new ≡ old + n)

-- what a search answers: a number, none, or the first block that fails its tests
abbrev pub Search : Type 0
Search = Result (Option ℕ) (ℕ × BlockFault)

-- where one search finds nothing, the other one's answer
abbrev pub then_next : Search → Search → Search
then_next (Err fault) other = Err fault
then_next (Ok None) other = other
then_next (Ok (Some n)) other = Ok (Some n)

-- the subtrees of some entries, one after the other
abbrev pub among : (ℕ → Search) → List (Entry InoKey) → Search
among below [] = Ok None
among below (e ∷ es) = then_next (below e.child) (among below es)

-- how many blocks are read for a search, and then, where it found nothing, for the next one
abbrev pub then_reads : Search → ℕ → ℕ → ℕ
then_reads (Err fault) n more = n
then_reads (Ok None) n more = n + more
then_reads (Ok (Some i)) n more = n

abbrev pub reads_among : (ℕ → Search) → (ℕ → ℕ) → List (Entry InoKey) → ℕ
reads_among below reads [] = 0
reads_among below reads (e ∷ es) = then_reads (below e.child) (reads e.child) (reads_among below reads es)

-- no chunk that begins before this number reaches the range
abbrev pub key_from : ℕ → InoKey
key_from from = record { startino = from - 63 }

module _ (site : Site) (m : ℕ → List ℕ) (from end : ℕ) where
  -- a node's entries from the last one on whose low key isn't after that number
  abbrev pub entries_on : List ℕ → List (Entry InoKey)
  entries_on bytes = items_from (entry_at ino_form (area_of bytes)) (numrecs bytes - start_of ino_form (Some (key_from from)) bytes) (start_of ino_form (Some (key_from from)) bytes)

  -- below a block of this level
  unfoldable pub search_below : ℕ → Bool → ℕ → Search
  search_below zero root p = tested (lone_fault ino_form site zero root p (m p)) p (Ok (first_in from end (records_of ino_form (m p))))
  search_below (suc level) root p = tested (lone_fault ino_form site (suc level) root p (m p)) p (among (search_below level false) (entries_on (m p)))

  -- and how many blocks are read for that: each block on the way, and each one that is passed, once
  unfoldable pub reads_below : ℕ → ℕ → ℕ
  reads_below zero p = 1
  reads_below (suc level) p = 1 + reads_among (search_below level false) (reads_below level) (entries_on (m p))

  -- in a tree with this root and so many levels
  unfoldable pub search_in : ℕ → ℕ → Search
  search_in root levels = if nat_le 1 root && nat_lt root site.bounds.length then search_below (top_of levels) true root else Err (root, Range)

  unfoldable pub reads_in : ℕ → ℕ → ℕ
  reads_in root levels = reads_below (top_of levels) root

  -- in a readable tree it is the lowest of its records
  abbrev pub FindsFirst : Type 0
  FindsFirst = (root levels : ℕ) (recs : List InoRec) → Holds ino_form site m root levels recs → search_in root levels ≡ Ok (first_in from end recs)

  -- so a call that searches it answers that one
  abbrev pub IsRightFirst : ℕ → ℕ → Result (Option ℕ) WalkFault → Type 0
  IsRightFirst root levels result = WhereHolds ino_form site m root levels (λ recs. Meets (Ok (first_in from end recs)) result)
