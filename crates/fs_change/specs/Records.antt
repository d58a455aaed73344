-- A run put into the records of one index, or taken out of them; a mapping put into a fork, or a piece taken out.
use Rattle.std.specs.Prelude.{ℕ, ◌+◌, ◌-◌, ◌/◌, ◌^◌, ◌==◌, ◌&&◌, ◌||◌, nat_le, nat_lt, min, Bool, true, false, not, List, [], ◌∷◌, ◌++◌, map, reverse, filter, find, flat_map, Option, Some, None, option_to_list, if◌then◌else◌}
use Rattle.std.specs.List.{list_any}
use Rattle.std.specs.Option.{option_map_or}
use Rattle.dinode_core.specs.declared.mapping.Mapping.{Mapping}
use Rattle.ino_recs.specs.declared.chunk.InoRec.{InoRec}
use Rattle.rmap_recs.specs.Rmap.{can_join}
use Rattle.rmap_recs.specs.declared.records.RmapRec.{RmapRec}
use Rattle.run_edits.specs.Edits.{put_rec, grown, holds, rest_put}
use Rattle.span_recs.specs.declared.refcount.RefcRec.{RefcRec}
use Rattle.span_recs.specs.declared.span.SpanRec.{SpanRec}
use Rattle.fs_state.specs.Lists.{only_if}

-- ---- lists in order

-- x before the first that doesn't come before it
abbrev pub put_by : {R : Type 0} → (R → ℕ) → R → List R → List R
put_by key x [] = x ∷ []
put_by key x (y ∷ ys) = if nat_lt (key y) (key x) then y ∷ put_by key x ys else x ∷ y ∷ ys

-- each of these put in
abbrev pub put_all : {R : Type 0} → (R → List R → List R) → List R → List R → List R
put_all put [] rs = rs
put_all put (x ∷ xs) rs = put x (put_all put xs rs)

-- the list without the first that passes
abbrev pub without_first : {R : Type 0} → (R → Bool) → List R → List R
without_first test [] = []
without_first test (x ∷ xs) = if test x then xs else x ∷ without_first test xs

-- the last of the records that begins at this block or before it
abbrev pub last_at : {R : Type 0} → (R → ℕ) → ℕ → List R → Option R
last_at start b rs = find (λ r. nat_le (start r) b) (reverse rs)

abbrev pub only_where : {R : Type 0} → (R → Bool) → Option R → Option R
only_where test None = None
only_where test (Some r) = if test r then Some r else None

-- ---- free space: records that go, and records that come in their place

abbrev pub span : ℕ → ℕ → SpanRec
span b n = record { start = b; count = n }

abbrev pub end_of : SpanRec → ℕ
end_of r = r.start + r.count

abbrev pub is_same_span : SpanRec → SpanRec → Bool
is_same_span r s = (r.start == s.start) && (r.count == s.count)

abbrev pub has_span : List SpanRec → SpanRec → Bool
has_span rs r = list_any (is_same_span r) rs

-- the record that a run is taken from: the last that begins at its first block or before, where that holds it
abbrev pub holder_of : List SpanRec → SpanRec → Option SpanRec
holder_of rs run = only_where (λ r. nat_le (end_of run) (end_of r)) (last_at (λ r. r.start) run.start rs)

-- what of a record isn't the run's
abbrev pub rest_of : SpanRec → SpanRec → List SpanRec
rest_of run r = only_if (nat_lt r.start run.start) (span r.start (run.start - r.start)) ++ only_if (nat_lt (end_of run) (end_of r)) (span (end_of run) (end_of r - end_of run))

-- the records that a run joins: the last before it, where that ends at it, and one that begins at its end
abbrev pub before_run : List SpanRec → SpanRec → Option SpanRec
before_run rs run = only_where (λ r. end_of r == run.start) (find (λ r. nat_lt r.start run.start) (reverse rs))

abbrev pub behind_run : List SpanRec → SpanRec → Option SpanRec
behind_run rs run = find (λ r. r.start == end_of run) rs

abbrev pub beside_run : List SpanRec → SpanRec → List SpanRec
beside_run rs run = option_to_list (before_run rs run) ++ option_to_list (behind_run rs run)

abbrev pub joined_run : List SpanRec → SpanRec → SpanRec
joined_run rs run = span (option_map_or (λ r. r.start) (before_run rs run) run.start) (option_map_or (λ r. r.count) (before_run rs run) 0 + run.count + option_map_or (λ r. r.count) (behind_run rs run) 0)

-- these records go and those come, in the order of blocks, or of counts
abbrev pub swap_spans : (SpanRec → List SpanRec → List SpanRec) → List SpanRec → List SpanRec → List SpanRec → List SpanRec
swap_spans put out new rs = put_all put new (filter (λ r. not (has_span out r)) rs)

abbrev pub by_start : SpanRec → List SpanRec → List SpanRec
by_start r rs = put_by (λ s. s.start) r rs

-- What is an index of free space after a run left it, or joined it? `rs` are the records by start, which say what the
-- run is part of, and `put` is the index's own order.
unfoldable pub take_span : (SpanRec → List SpanRec → List SpanRec) → List SpanRec → SpanRec → List SpanRec → List SpanRec
take_span put rs run recs = swap_spans put (option_to_list (holder_of rs run)) (option_map_or (rest_of run) (holder_of rs run) []) recs

unfoldable pub give_span : (SpanRec → List SpanRec → List SpanRec) → List SpanRec → SpanRec → List SpanRec → List SpanRec
give_span put rs run recs = swap_spans put (beside_run rs run) (joined_run rs run ∷ []) recs

-- ---- reverse mappings

-- What are reverse mappings after a run was given an owner, or lost it? The first record that it goes on from, and the
-- first that goes on from it, become one with it; it leaves the first record that holds it.
unfoldable pub give_mapping : RmapRec → List RmapRec → List RmapRec
give_mapping r rs = put_rec (grown r rs) (without_first (λ p. can_join p r) (without_first (can_join r) rs))

unfoldable pub take_mapping : RmapRec → List RmapRec → List RmapRec
take_mapping r rs = rest_put (find (λ p. holds p r) rs) r (without_first (λ p. holds p r) rs)

-- ---- reference counts

abbrev pub refc_end : RefcRec → ℕ
refc_end r = r.start + r.count

-- the record that counts the block's owners; a block without one has one owner, or none
abbrev pub counter_of : List RefcRec → ℕ → Option RefcRec
counter_of rs b = only_where (λ r. nat_lt b (refc_end r)) (last_at (λ r. r.start) b rs)

unfoldable pub count_at : List RefcRec → ℕ → ℕ
count_at rs b = option_map_or (λ r. r.refcount) (counter_of rs b) 1

-- a block with so many owners isn't shared once more
abbrev pub most_counted : ℕ
most_counted = 4294967200

-- the greatest count that a record has
abbrev pub greatest_count : ℕ
greatest_count = 4294967295

-- How far does one count reach, of n blocks from b on? To the end of the record that has b, and not into the next one.
unfoldable pub stretch : List RefcRec → ℕ → ℕ → ℕ
stretch rs b n = min n (min (option_map_or refc_end (counter_of rs b) (b + n)) (option_map_or (λ r. r.start) (find (λ r. nat_lt b r.start) rs) (b + n)) - b)

abbrev pub is_same_count : RefcRec → RefcRec → Bool
is_same_count r s = (r.start == s.start) && (r.count == s.count) && (r.refcount == s.refcount)

abbrev pub swap_counts : List RefcRec → List RefcRec → List RefcRec → List RefcRec
swap_counts out new rs = put_all (put_by (λ r. r.start)) new (filter (λ r. not (list_any (is_same_count r) out)) rs)

abbrev pub counted : ℕ → ℕ → ℕ → RefcRec
counted b n v = record { start = b; count = n; refcount = v }

-- what of a record isn't the run's
abbrev pub count_rest : ℕ → ℕ → RefcRec → List RefcRec
count_rest b n r = only_if (nat_lt r.start b) (counted r.start (b - r.start) r.refcount) ++ only_if (nat_lt (b + n) (refc_end r)) (counted (b + n) (refc_end r - (b + n)) r.refcount)

abbrev pub cut_counts : List RefcRec → ℕ → ℕ → List RefcRec
cut_counts rs b n = swap_counts (option_to_list (counter_of rs b)) (option_map_or (count_rest b n) (counter_of rs b) []) rs

-- the records of this count that end at the run, or begin at its end
abbrev pub count_before : List RefcRec → ℕ → ℕ → Option RefcRec
count_before rs b v = only_where (λ r. (refc_end r == b) && (r.refcount == v)) (find (λ r. nat_lt r.start b) (reverse rs))

abbrev pub count_behind : List RefcRec → ℕ → ℕ → Option RefcRec
count_behind rs e v = only_where (λ r. r.refcount == v) (find (λ r. r.start == e) rs)

abbrev pub joined_counts : List RefcRec → ℕ → ℕ → ℕ → RefcRec
joined_counts rs b n v =
    counted (option_map_or (λ r. r.start) (count_before rs b v) b) (option_map_or (λ r. r.count) (count_before rs b v) 0 + n + option_map_or (λ r. r.count) (count_behind rs (b + n) v) 0) v

abbrev pub join_counts : List RefcRec → ℕ → ℕ → ℕ → List RefcRec
join_counts rs b n v = swap_counts (option_to_list (count_before rs b v) ++ option_to_list (count_behind rs (b + n) v)) (joined_counts rs b n v ∷ []) rs

-- What are reference counts after a stretch got a new one? A record that it is part of is cut, and it joins those beside
-- it that have its new count; one owner, or none, has no record.
unfoldable pub set_count : ℕ → ℕ → ℕ → List RefcRec → List RefcRec
set_count b n v rs = if nat_lt v 2 then cut_counts rs b n else join_counts (cut_counts rs b n) b n v

-- ---- inodes

-- the record of the chunk that has the inode of this number in its group
abbrev pub has_inode : ℕ → InoRec → Bool
has_inode i r = nat_le r.startino i && nat_lt i (r.startino + 64)

-- its bit is set where the inode is free
abbrev pub bit_of : ℕ → InoRec → ℕ
bit_of i r = 2 ^ (i - r.startino)

abbrev pub turned : Bool → ℕ → InoRec → InoRec
turned true i r = record r { freecount = r.freecount + 1; free = r.free + bit_of i r }
turned false i r = record r { freecount = r.freecount - 1; free = r.free - bit_of i r }

-- What is the inode btree after an inode became free, or allocated? One bit of one record turns.
unfoldable pub turn_inode : Bool → ℕ → List InoRec → List InoRec
turn_inode to_free i rs = map (λ r. if has_inode i r then turned to_free i r else r) rs

-- a record in the order of chunks
abbrev pub put_chunk : InoRec → List InoRec → List InoRec
put_chunk r rs = put_by (λ s. s.startino) r rs

-- and the free inode btree? It has the records of chunks with a free inode; `rs` are those of the inode btree.
unfoldable pub follow_inode : ℕ → List InoRec → List InoRec → List InoRec
follow_inode i rs finos = put_all put_chunk (filter (λ r. has_inode i r && nat_lt 0 r.freecount) rs) (filter (λ r. not (has_inode i r)) finos)

-- ---- forks

-- the greatest number of blocks of a mapping
abbrev pub most_mapped : ℕ
most_mapped = 2 ^ 21 - 1

abbrev pub is_same_flag : Bool → Bool → Bool
is_same_flag true b = b
is_same_flag false b = not b

-- the second goes on where the first ends, in one group, both written or both not, and together they are one mapping
abbrev pub meets : ℕ → Mapping → Mapping → Bool
meets agblklog p q = (p.offset + p.count == q.offset) && (p.block + p.count == q.block) && (p.block / 2 ^ agblklog == q.block / 2 ^ agblklog) && is_same_flag p.unwritten q.unwritten && nat_le (p.count + q.count) most_mapped

abbrev pub joined_to : Option Mapping → Mapping → Mapping
joined_to None m = m
joined_to (Some p) m = record p { count = p.count + m.count }

-- the mapping with the one before it, where they meet
abbrev pub with_before : ℕ → Mapping → List Mapping → Mapping
with_before l m ms = joined_to (find (λ p. meets l p m) ms) m

-- What is a fork after a mapping was added? It is one with its neighbours where they meet, the one before it first.
unfoldable pub add_mapping : ℕ → Mapping → List Mapping → List Mapping
add_mapping l m ms =
    let x = with_before l m ms in
    put_by (λ p. p.offset) (option_map_or (joined_to (Some x)) (find (meets l x) ms) x) (filter (λ p. not (meets l p m || meets l x p)) ms)

abbrev pub maps : ℕ → Mapping → Bool
maps offset m = nat_le m.offset offset && nat_lt offset (m.offset + m.count)

-- what of a mapping lies beside n blocks at the offset
abbrev pub mapping_rest : ℕ → ℕ → Mapping → List Mapping
mapping_rest offset n m =
    only_if (nat_lt m.offset offset) (record m { count = offset - m.offset })
    ++ only_if (nat_lt (offset + n) (m.offset + m.count)) (record m { offset = offset + n; block = m.block + (offset + n - m.offset); count = m.offset + m.count - (offset + n) })

-- and after a piece of one mapping left it? What is left of that mapping stays.
unfoldable pub take_piece : ℕ → ℕ → List Mapping → List Mapping
take_piece offset n ms = flat_map (λ m. if maps offset m then mapping_rest offset n m else m ∷ []) ms

abbrev pub mapping_at : ℕ → List Mapping → Option Mapping
mapping_at offset ms = find (maps offset) ms

abbrev pub is_unwritten_at : ℕ → List Mapping → Bool
is_unwritten_at offset ms = option_map_or (λ m. m.unwritten) (mapping_at offset ms) false

-- the n blocks at the offset are those from block b on, by one mapping
abbrev pub is_piece : ℕ → ℕ → ℕ → List Mapping → Bool
is_piece offset b n ms = option_map_or (λ m. nat_le (offset + n) (m.offset + m.count) && (m.block + (offset - m.offset) == b)) (mapping_at offset ms) false

-- no offset of these n is mapped
abbrev pub is_unmapped : ℕ → ℕ → List Mapping → Bool
is_unmapped offset n ms = not (list_any (λ m. nat_lt m.offset (offset + n) && nat_lt offset (m.offset + m.count)) ms)
