-- The free list, chunks, needs that grow, trees that are left, and what a session keeps.
use Rattle.std.specs.Prelude.{◌≡◌, ◌+◌, ◌-◌, ◌*◌, ◌^◌, ℕ, Bool, true, false, [], ◌∷◌, ◌++◌, map, length, Some, None}
use Rattle.bulk_load.specs.Shapes.{count}
use Rattle.dinode_core.specs.declared.mapping.Mapping.{Mapping}
use Rattle.fs_model.specs.declared.entry.Entry.TheVariants as entries
use Rattle.fs_model.specs.declared.fault.Cause.TheVariants.{Short}
use Rattle.fs_model.specs.declared.fault.Counter.TheVariants.{Iblocks}
use Rattle.fs_model.specs.declared.fault.Fault.TheVariants.{Extra}
use Rattle.fs_model.specs.declared.«record».AnyRec.TheVariants as recs
use Rattle.fs_model.specs.declared.unit.Trust.TheVariants.{Unknown, Sick}
use Rattle.fs_model.specs.declared.unit.Unit.TheVariants as units
use Rattle.sblock.specs.declared.kind.Kind.TheVariants.{Bno, Cnt, Rmap, Ino}
use Rattle.fs_state.specs.State.{State, Group}
use Rattle.fs_state.specs.Derive.{bno_of, cnt_of}
use Rattle.fs_state.specs.Faults.{faults}
use Rattle.fs_state.specs.Lists.{numbers}
use Rattle.fs_state.specs.Own.{rmap_of}
use Rattle.fs_change.specs.Changes.{mapped, taken, refilled, trimmed, reserved, rmap_done, marked}
use Rattle.fs_change.specs.Choice.{extent, spare_block}
use Rattle.fs_change.specs.Forget.{forgotten}
use Rattle.fs_change.specs.Loose.{laid_out}
use Rattle.fs_change.specs.Parts.{in_group, change_tree, records_in}
use Rattle.fs_change.specs.Run.{Leads}
use Rattle.fs_change.specs.Switch.{need, owned_by}
use Rattle.test_states.specs.Images.{image_a, image, group_with, trees_a, tree_of, file_with, fork_with, no_forks, counters_with, cores_to, span, mapped as owned, chunk, mapping, fs, ag, inobt, refc, inodes}
use Rattle.test_states.specs.Rows.{six_mappings}
use Rattle.test_changes.specs.Files.{piece, file_made, cut_off, first_of, rest_of, done}
use Rattle.test_changes.specs.Repairs.{rmap_rebuilt}

-- ---- a short list takes a run, and a long one gives a run back

abbrev pub short_list : State
short_list = in_group 0 (λ p. record p { free_list = 7 ∷ [] }) image_a

abbrev pub filled : State
filled = refilled (extent 0 32 15) short_list

-- of 65 blocks all but the last 16 go, run by run
abbrev pub long_list : State
long_list = image (group_with (numbers 7 12 ++ numbers 32 53) (counters_with 61 176 171) (record trees_a {
  bno = tree_of (1 ∷ []) (span 19 5 ∷ span 85 171 ∷ []);
  cnt = tree_of (2 ∷ []) (span 19 5 ∷ span 85 171 ∷ []);
  rmap = tree_of (5 ∷ []) (six_mappings ++ owned 24 8 inodes 0 ∷ owned 32 53 ag 0 ∷ []);
})) (cores_to 194) no_forks

abbrev pub cut_list : State
cut_list = trimmed (extent 0 32 37) (trimmed (extent 0 7 12) long_list)

abbrev pub ListMoves : Type 0
ListMoves =
    Leads short_list (entries.Refilled (extent 0 32 15) ∷ []) filled
    × ((filled.group 0).free_list ≡ 7 ∷ numbers 32 15)
    × (records_in (filled.group 0) Bno ≡ span 19 5 ∷ span 47 209 ∷ [])
    × Leads long_list (entries.Trimmed (extent 0 7 12) ∷ entries.Trimmed (extent 0 32 37) ∷ []) cut_list
    × ((cut_list.group 0).free_list ≡ numbers 69 16)
    × (records_in (cut_list.group 0) Bno ≡ span 7 17 ∷ span 32 37 ∷ span 85 171 ∷ [])
    × (faults cut_list 0 units.Rmap ≡ []) × (faults cut_list 0 units.Free ≡ [])

-- ---- an inode btree gets a root above two leaves: the counter of its blocks follows where heads keep it

abbrev pub split_inodes : Bool → Group
split_inodes kept = laid_out kept [] (Ino ∷ []) (λ k. 3 ∷ 7 ∷ 8 ∷ []) (numbers 9 10) [] (image_a.group 0)

abbrev pub InodeBlocks : Type 0
InodeBlocks =
    ((split_inodes true).counters Iblocks ≡ 3) × ((split_inodes false).counters Iblocks ≡ 1)
    × (records_in (split_inodes true) Rmap ≡ owned 0 1 fs 0 ∷ owned 1 2 ag 0 ∷ owned 3 2 inobt 0 ∷ owned 5 1 ag 0 ∷ owned 6 1 refc 0 ∷ owned 7 2 inobt 0 ∷ owned 9 10 ag 0 ∷ owned 24 8 inodes 0 ∷ [])

-- ---- where no inode is free a chunk is made, at the lowest aligned run of eight free blocks

abbrev pub all_taken : State
all_taken = image (group_with (numbers 7 12) (counters_with 0 229 224) (record trees_a { ino = tree_of (3 ∷ []) (chunk 192 0 0 ∷ []); fino = tree_of (4 ∷ []) [] })) (cores_to 255) no_forks

abbrev pub with_chunk : State
with_chunk = taken 0 256 256 5 (Some 32) all_taken

abbrev pub ChunkMade : Type 0
ChunkMade =
    Leads all_taken (entries.Taken 1 256 5 (Some 32) ∷ []) with_chunk
    × (records_in (with_chunk.group 0) Bno ≡ span 19 5 ∷ span 40 216 ∷ [])
    × (records_in (with_chunk.group 0) Ino ≡ chunk 192 0 0 ∷ chunk 256 63 (2 ^ 64 - 2) ∷ [])
    × (faults with_chunk 0 units.Inode ≡ []) × (faults with_chunk 0 units.Rmap ≡ []) × (faults with_chunk 0 units.Free ≡ [])

-- ---- reverse mappings of 168 runs, a list of 8 blocks, and a lowest spare run of three: the first spare block is a run
-- more, so that a root is needed above two leaves, and the next two join it

abbrev pub single : ℕ → Mapping
single k = mapping (20 + 2 * k) (100 + 2 * k) 1

abbrev pub many_blocks : State
many_blocks = record (file_with (counters_with 60 0 0) trees_a (fork_with (mapping 0 15 4 ∷ mapping 10 22 2 ∷ map single (numbers 0 159)))) {
  geometry = record { agblocks = 512; agcount = 1; dblocks = 512; agblklog = 9; uuid = []; log = None; kept = []; inobtcount = true };
}

abbrev pub many_runs : State
many_runs = in_group 0 (λ p. change_tree Rmap (λ i. tree_of (5 ∷ []) (rmap_of (in_group 0 (λ q. record q { free_list = numbers 7 8 }) many_blocks) 0)) (record p { free_list = numbers 7 8 })) many_blocks

abbrev pub many_fitted : State
many_fitted = in_group 0 (λ p. change_tree Cnt (λ i. tree_of (2 ∷ []) (cnt_of many_runs 0)) (change_tree Bno (λ i. tree_of (1 ∷ []) (bno_of many_runs 0)) p)) many_runs

abbrev pub reserved_one : State
reserved_one = reserved [] 0 units.Rmap 19 true many_fitted

abbrev pub reserved_three : State
reserved_three = reserved [] 0 units.Rmap 21 true (reserved [] 0 units.Rmap 20 true reserved_one)

abbrev pub NeedGrows : Type 0
NeedGrows =
    (length (records_in (many_runs.group 0) Rmap) ≡ 168) × (need many_fitted 0 units.Rmap ≡ 1) × (spare_block many_fitted 0 units.Rmap ≡ Some 19)
    × (need reserved_one 0 units.Rmap ≡ 3) × (spare_block reserved_one 0 units.Rmap ≡ Some 20)
    × (need reserved_three 0 units.Rmap ≡ 3) × (count Rmap 169 0 0 ≡ 85) × (count Rmap 169 0 1 ≡ 84)

-- ---- a step whose edit finds a full leaf and an empty list leaves reverse mappings, and is followed by their mark

abbrev pub crowd : State → State
crowd a = in_group 0 (λ p. change_tree Rmap (λ i. tree_of (5 ∷ []) (map (λ k. owned (40 + k) 1 195 (2 * k + 100)) (numbers 0 168))) (record p { free_list = [] })) a

abbrev pub before_step : State
before_step = crowd (mapped (piece 0 32 6) file_made)

abbrev pub left_alone : State
left_alone = rmap_done (Rmap ∷ []) 0 (first_of (before_step.chains 0)) (rest_of (before_step.chains 0)) before_step

abbrev pub and_marked : State
and_marked = marked 0 Rmap left_alone

abbrev pub LeftAlone : Type 0
LeftAlone =
    Leads before_step (done 32 6 ∷ entries.Marked 0 Rmap (Short 0 2) ∷ []) and_marked
    × (records_in (and_marked.group 0) Rmap ≡ records_in (before_step.group 0) Rmap)
    × (((and_marked.group 0).tree Rmap).trust ≡ Sick)

-- ---- a new session keeps what the image says: limbo is extra then, and so is a reverse mapping that was to be taken

abbrev pub Forgotten : Type 0
Forgotten =
    ((rmap_rebuilt.group 0).limbo ≡ owned_by ag 5 ∷ [])
    × (((forgotten rmap_rebuilt).group 0).limbo ≡ [])
    × (faults (forgotten rmap_rebuilt) 0 units.Rmap ≡ Extra (recs.Rmap (owned 5 1 ag 0)) ∷ [])
    × ((((forgotten rmap_rebuilt).group 0).tree Rmap).trust ≡ Unknown)
    × (faults (forgotten cut_off) 0 units.Rmap ≡ Extra (recs.Rmap (owned 32 6 195 (2 ^ 61))) ∷ [])
