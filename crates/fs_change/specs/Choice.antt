-- Which run, block or inode an event takes ("AG Free Space B+trees", "Inode B+trees"; Online Fsck Design, "Reserving New B+Tree
-- Blocks").
use Rattle.std.specs.Prelude.{ℕ, ◌+◌, ◌-◌, ◌*◌, ◌/◌, ◌%◌, ◌^◌, ◌==◌, ◌&&◌, nat_le, nat_lt, min, Bool, true, not, List, [], ◌∷◌, ◌++◌, filter, find, reverse, Option, Some, None, option_map}
use Rattle.std.specs.List.{list_any}
use Rattle.std.specs.Option.{option_or}
use Rattle.fs_model.specs.declared.entry.Extent.{Extent}
use Rattle.fs_model.specs.declared.unit.Unit.{Unit as ScrubUnit}
use Rattle.fs_model.specs.declared.unit.Unit.TheVariants as units
use Rattle.geom.specs.Layout.{group_len_of, split_of, inode_at}
use Rattle.ino_recs.specs.declared.chunk.InoRec.{InoRec}
use Rattle.rmap_recs.specs.declared.records.RmapRec.{RmapRec}
use Rattle.span_recs.specs.declared.span.SpanRec.{SpanRec}
use Rattle.sblock.specs.declared.kind.Kind.{Kind}
use Rattle.sblock.specs.declared.kind.Kind.TheVariants.{Bno, Cnt, Rmap, Refc, Ino, Fino}
use Rattle.fs_state.specs.Apart.{is_free}
use Rattle.fs_state.specs.State.{State, Group, is_readable}
use Rattle.fs_state.specs.Claims.{Claimed, claims, metadata_claims}
use Rattle.fs_state.specs.Derive.{bno_of}
use Rattle.fs_state.specs.Lists.{numbers}
use Rattle.fs_change.specs.Parts.{sick_in, records_in}
use Rattle.fs_change.specs.Records.{most_mapped}

abbrev pub extent : ℕ → ℕ → ℕ → Extent
extent g b n = record { group = g; block = b; count = n }

abbrev pub none_sick : List Kind → Group → Bool
none_sick ks p = not (list_any (sick_in p) ks)

-- Is a block of the run covered by reverse mappings? An owner guard asks that.
unfoldable pub is_guarded : List RmapRec → ℕ → ℕ → Bool
is_guarded recs b n = list_any (λ r. nat_lt 0 r.count && (nat_lt r.start (b + n) && nat_lt b (r.start + r.count))) recs

-- ---- a run of free space

-- the gate of the group is open, and none of these trees is sick
abbrev pub is_usable : State → (ℕ → Bool) → List Kind → ℕ → Bool
is_usable a gates ks g = gates g && none_sick ks (a.group g)

abbrev pub space_kinds : List Kind
space_kinds = Bno ∷ Cnt ∷ Rmap ∷ []

-- those that are asked before a piece of a file is taken away, shared or made written
abbrev pub piece_kinds : List Kind
piece_kinds = Rmap ∷ Refc ∷ Bno ∷ Cnt ∷ []

abbrev pub group_or_first : Option (ℕ × ℕ) → ℕ
group_or_first None = 0
group_or_first (Some p) = p.0

-- groups from that of the inode upwards and round
abbrev pub groups_from : State → ℕ → List ℕ
groups_from a ino = let g = group_or_first (split_of a.geometry (ino / 8)) in numbers g (a.geometry.agcount - g) ++ numbers 0 g

abbrev pub fitting : ℕ → List SpanRec → Option SpanRec
fitting wanted rs = find (λ r. nat_le wanted r.count) rs

abbrev pub last_of : List SpanRec → Option SpanRec
last_of rs = find (λ r. true) (reverse rs)

abbrev pub front_in : State → ℕ → (List SpanRec → Option SpanRec) → ℕ → Option Extent
front_in a wanted pick g = option_map (λ r. extent g r.start (min wanted r.count)) (pick (records_in (a.group g) Cnt))

abbrev pub first_in : {X : Type 0} → (ℕ → Option X) → List ℕ → Option X
first_in f [] = None
first_in f (g ∷ gs) = option_or (f g) (first_in f gs)

-- Which run do these groups give? The front of the first record by count that is long enough, in the first group that
-- has one; else the front of the longest record of the first group with any.
unfoldable pub chosen_of : State → ℕ → List ℕ → Option Extent
chosen_of a count gs = option_or (first_in (front_in a count (fitting count)) gs) (first_in (front_in a count last_of) gs)

-- Which run does a file get? From usable groups, its own first.
unfoldable pub chosen : State → (ℕ → Bool) → ℕ → ℕ → Option Extent
chosen a gates count ino = chosen_of a (min count most_mapped) (filter (is_usable a gates space_kinds) (groups_from a ino))

-- ---- the lowest spare block of a unit

abbrev pub has_claim : List Claimed → ℕ → Bool
has_claim cs b = list_any (λ c. c.block == b) cs

abbrev pub in_spans : List SpanRec → ℕ → Bool
in_spans rs b = is_free rs b

-- a block that free space lists, that nobody owns, and that no metadata claims
abbrev pub is_unowned : State → ℕ → ℕ → Bool
is_unowned a g b = none_sick space_kinds (a.group g) && in_spans (records_in (a.group g) Bno) b && not (is_guarded (records_in (a.group g) Rmap) b 1) && not (has_claim (metadata_claims a g) b)

-- May a unit take the block for its reserve? For free space one of the derived free space; for reverse mappings one that
-- free space lists and nothing claims; else one that nobody owns.
unfoldable pub is_spare : State → ℕ → ScrubUnit → ℕ → Bool
is_spare a g units.Free b = not (sick_in (a.group g) Rmap) && in_spans (bno_of a g) b
is_spare a g units.Rmap b = is_readable ((a.group g).tree Bno).reading && not (sick_in (a.group g) Bno) && in_spans (records_in (a.group g) Bno) b && not (has_claim (claims a g) b)
is_spare a g units.Inode b = is_unowned a g b
is_spare a g units.Refc b = is_unowned a g b

unfoldable pub spare_block : State → ℕ → ScrubUnit → Option ℕ
spare_block a g unit = find (is_spare a g unit) (numbers 0 (group_len_of a.geometry g))

-- ---- inodes

-- the number of an inode inside its group, as a place in the group's inode space
abbrev pub inode_of : State → ℕ → ℕ → ℕ
inode_of a g i = inode_at a.geometry g (i / 8) (i % 8)

abbrev pub is_bit : ℕ → ℕ → Bool
is_bit mask i = (mask / 2 ^ i) % 2 == 1

abbrev pub lowest_bit : InoRec → Option ℕ
lowest_bit r = option_map (λ i. r.startino + i) (find (is_bit r.free) (numbers 0 64))

abbrev pub first_free : List InoRec → Option ℕ
first_free [] = None
first_free (r ∷ rs) = lowest_bit r

abbrev pub inode_kinds : List Kind
inode_kinds = Ino ∷ Fino ∷ []

-- Which inode is taken? The lowest free one of the first record of free inodes, in the first group that has one.
unfoldable pub free_inode : State → (ℕ → Bool) → Option (ℕ × ℕ)
free_inode a gates = first_in (λ g. option_map (λ i. (g, i)) (first_free (records_in (a.group g) Fino))) (filter (is_usable a gates inode_kinds) (numbers 0 a.geometry.agcount))

-- the aligned 8 blocks of a unit lie in one record of free space
abbrev pub is_free_unit : List SpanRec → ℕ → Bool
is_free_unit rs u = list_any (λ r. nat_le r.start (8 * u) && nat_le (8 * u + 8) (r.start + r.count)) rs

-- Where is a new chunk made? At the lowest aligned run of 8 free blocks, in the first usable group that has one.
unfoldable pub chunk_run : State → (ℕ → Bool) → Option Extent
chunk_run a gates =
    first_in (λ g. option_map (λ u. extent g (8 * u) 8) (find (is_free_unit (records_in (a.group g) Bno)) (numbers 0 (group_len_of a.geometry g / 8)))) (filter (is_usable a gates (space_kinds ++ inode_kinds)) (numbers 0 a.geometry.agcount))
