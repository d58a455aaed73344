-- What should each index of a group hold?
use Rattle.std.specs.Prelude.{ℕ, ◌*◌, ◌^◌, ◌==◌, nat_lt, Bool, false, List, map, filter, sum_by, Option, Some, None, if◌then◌else◌}
use Rattle.derive_defs.specs.ByCount.{ordered_by_count}
use Rattle.derive_defs.specs.Free.{free_space}
use Rattle.derive_defs.specs.Shared.{shared_space}
use Rattle.geom.specs.Layout.{group_len_of}
use Rattle.ino_recs.specs.declared.chunk.InoRec.{InoRec}
use Rattle.rmap_recs.specs.declared.records.RmapRec.{RmapRec}
use Rattle.sblock.specs.declared.kind.Kind.{Kind}
use Rattle.sblock.specs.declared.kind.Kind.TheVariants.{Bno, Cnt, Rmap, Refc, Ino, Fino}
use Rattle.span_recs.specs.declared.refcount.RefcRec.{RefcRec}
use Rattle.span_recs.specs.declared.span.SpanRec.{SpanRec}
use Rattle.fs_state.specs.Kinds.{RecOf}
use Rattle.fs_state.specs.State.{State, CoreState, Broken, Whole, recs_of}
use Rattle.fs_state.specs.Chunks.{chunks, inode_in}
use Rattle.fs_state.specs.Lists.{numbers}
use Rattle.fs_state.specs.Own.{rmap_of}

-- an inode of mode 0 is free
abbrev pub is_free : Option CoreState → Bool
is_free None = false
is_free (Some (Broken fault)) = false
is_free (Some (Whole inode)) = inode.mode == 0

-- the sum over the free inodes of a unit, by their numbers in it
abbrev pub over_free : State → ℕ → ℕ → (ℕ → ℕ) → ℕ
over_free a g u f = sum_by (λ i. if is_free (a.core (inode_in a g u i)) then f i else 0) (numbers 0 64)

-- a chunk's record: which of its 64 inodes are free, by a bit for each
abbrev pub chunk_record : State → ℕ → ℕ → InoRec
chunk_record a g u = record { startino = 64 * u; holemask = 0; count = 64; freecount = over_free a g u (λ i. 1); free = over_free a g u (λ i. 2 ^ i) }

-- What should the inode btree hold? One record for each chunk.
unfoldable pub ino_of : State → ℕ → List InoRec
ino_of a g = map (chunk_record a g) (chunks a g)

-- What should the free inode btree hold? The records of chunks with a free inode.
unfoldable pub fino_of : State → ℕ → List InoRec
fino_of a g = filter (λ r. nat_lt 0 r.freecount) (ino_of a g)

-- the records of the reverse mapping btree, from which the last three are read off
abbrev pub mappings : State → ℕ → List RmapRec
mappings a g = recs_of ((a.group g).tree Rmap).reading

-- What should the free space btree by start hold? The maximal runs of blocks that no reverse mapping covers.
unfoldable pub bno_of : State → ℕ → List SpanRec
bno_of a g = free_space (group_len_of a.geometry g) (mappings a g)

-- What should the one by count hold? The same, by count and then start.
unfoldable pub cnt_of : State → ℕ → List SpanRec
cnt_of a g = ordered_by_count (bno_of a g)

-- What should the reference count btree hold? The maximal runs of blocks that equally many mappings of written file
-- data have, at least two, with their number.
unfoldable pub refc_of : State → ℕ → List RefcRec
refc_of a g = shared_space (mappings a g)

-- What should this index hold?
unfoldable pub derive : State → ℕ → (k : Kind) → List (RecOf k)
derive a g Bno = bno_of a g
derive a g Cnt = cnt_of a g
derive a g Rmap = rmap_of a g
derive a g Refc = refc_of a g
derive a g Ino = ino_of a g
derive a g Fino = fino_of a g
