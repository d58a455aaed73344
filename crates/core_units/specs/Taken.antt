-- What taking a spare block makes of the lists.
use Rattle.std.specs.Prelude.{◌≡◌, ℕ, ◌+◌, ◌-◌, ◌<◌, ◌≤◌, nat_le, if◌then◌else◌, List, [], ◌∷◌, All}
use Rattle.block_reap.specs.Limbo.{owner_of_unit}
use Rattle.derive_defs.specs.ByCount.{ordered_by_count}
use Rattle.fs_model.specs.declared.claim.Claim.TheVariants.{Reserve}
use Rattle.fs_model.specs.declared.unit.Unit.{Unit as ScrubUnit}
use Rattle.rmap_recs.specs.Owners.{number_of}
use Rattle.rmap_recs.specs.declared.records.RmapRec.{RmapRec}
use Rattle.run_edits.specs.Edits.{AreSorted, HasRoom, give_run}
use Rattle.run_sets.specs.Runs.{most}
use Rattle.span_recs.specs.declared.span.SpanRec.{SpanRec}
use Rattle.unit_plan.specs.declared.piece.Piece.{Piece}
use Rattle.core_units.specs.declared.lists.Lists.{Lists}
use Rattle.core_units.specs.declared.lists.Lists.TheVariants as lists

-- free space without its lowest block
abbrev pub without_front : List SpanRec → List SpanRec
without_front [] = []
without_front (r ∷ rs) = if nat_le r.count 1 then rs else record { start = r.start + 1; count = r.count - 1 } ∷ rs

-- the claim of a block that free space gave
abbrev pub reserve_piece_of : ScrubUnit → ℕ → Piece
reserve_piece_of unit block = record { claim = Reserve; run = record { start = block; count = 1 }; owner = number_of (owner_of_unit unit); word = 0 }

-- its reverse mapping
abbrev pub reserve_mapping_of : ScrubUnit → ℕ → RmapRec
reserve_mapping_of unit block = record { start = block; count = 1; owner = number_of (owner_of_unit unit); word = 0 }

-- The lists once the block was taken: free space by start lacks its lowest block, and reverse mappings have one for
-- the block. The others don't change; free space by count is settled at the end.
abbrev pub HasTaken : ScrubUnit → ℕ → Lists → Lists → Type 0
HasTaken unit block (lists.Inode ino fino) (lists.Inode ino2 fino2) = (ino2 ≡ ino) × (fino2 ≡ fino)
HasTaken unit block (lists.Rmap rmap) (lists.Rmap after) = after.items ≡ give_run (reserve_mapping_of unit block) rmap.items
HasTaken unit block (lists.Free bno cnt) (lists.Free after cnt2) = (after.items ≡ without_front bno.items) × (cnt2 ≡ cnt)
HasTaken unit block (lists.Refc refc) (lists.Refc refc2) = refc2 ≡ refc
HasTaken unit block old new = ⊥

-- free space by count is that by start in its order; nothing else changes
abbrev pub IsSettled : Lists → Lists → Type 0
IsSettled (lists.Free bno cnt) (lists.Free bno2 sorted) = (bno2 ≡ bno) × (sorted.items ≡ ordered_by_count bno.items)
IsSettled old new = new ≡ old
