-- How far an entry, or a mark by itself, may go: rows on both sides of each bound.
use Rattle.std.specs.Prelude.{◌≡◌, ◌*◌, ◌++◌, ℕ, Bool, true, false, List, [], ◌∷◌, map, Some, None}
use Rattle.fs_model.specs.declared.entry.Entry.TheVariants as entries
use Rattle.fs_model.specs.declared.fault.Cause.TheVariants.{Missing, Large, Short}
use Rattle.fs_model.specs.declared.fault.Counter.TheVariants.{Iblocks, Fblocks, Freecount}
use Rattle.fs_model.specs.declared.unit.Unit.TheVariants as units
use Rattle.sblock.specs.declared.kind.Kind.{Kind}
use Rattle.sblock.specs.declared.kind.Kind.TheVariants.{Bno, Cnt, Rmap, Ino, Fino}
use Rattle.fs_state.specs.State.{State, Group}
use Rattle.fs_state.specs.Lists.{numbers}
use Rattle.fs_change.specs.Changes.{taken}
use Rattle.fs_change.specs.Choice.{chosen, chunk_run, extent}
use Rattle.fs_change.specs.Loose.{Loosely, MovesBlocks, count_used, is_limbo_due, used_blocks}
use Rattle.fs_change.specs.Marks.{Explains, IsStuck, IsWanted, is_refused, do_turn, fits_trees, kinds_before, listed_for, most_put}
use Rattle.fs_change.specs.Met.{nothing}
use Rattle.fs_change.specs.Parts.{change_tree, in_group, set_blocks, set_core}
use Rattle.fs_change.specs.Run.{Leads}
use Rattle.fs_change.specs.Step.{MayTrim}
use Rattle.fs_change.specs.Switch.{owned_by}
use Rattle.test_states.specs.Images.{image_a, chunk, tree_of, ag, inobt}
use Rattle.test_changes.specs.Files.{piece, done}
use Rattle.test_changes.specs.Lists.{short_list, long_list, before_step, crowd, split_inodes}
use Rattle.test_changes.specs.Refused.{NoneAfter}

-- ---- a short list isn't trimmed, and the last blocks of a long one stay

abbrev pub TrimsFront : Type 0
TrimsFront = NoneAfter image_a (entries.Trimmed (extent 0 7 1)) × NoneAfter long_list (entries.Trimmed (extent 0 84 1))

-- ---- limbo gains where the list has no room, and not while it has

abbrev pub full_list : Group
full_list = record (image_a.group 0) { free_list = numbers 40 119 }

abbrev pub LimboDue : Type 0
LimboDue =
    (is_limbo_due (image_a.group 0) [] (owned_by inobt 3 ∷ []) ≡ false)
    × (is_limbo_due (image_a.group 0) [] [] ≡ true)
    × (is_limbo_due full_list [] (owned_by inobt 3 ∷ []) ≡ true)

-- ---- which blocks left the front of a list is what both lists tell: of one that stays none, so that each core of it stays;
-- any, where blocks got another owner

abbrev pub ListTaken : Type 0
ListTaken =
    (count_used (7 ∷ 8 ∷ 9 ∷ []) (7 ∷ 8 ∷ 9 ∷ 3 ∷ []) ≡ 0)
    × (count_used (7 ∷ 8 ∷ 9 ∷ []) (9 ∷ 3 ∷ 7 ∷ []) ≡ 2)
    × (count_used (7 ∷ 8 ∷ 9 ∷ []) (3 ∷ []) ≡ 3)
    × (used_blocks (image_a.group 0) (image_a.group 0) ≡ [])
    × (used_blocks (image_a.group 0) (split_inodes true) ≡ numbers 7 12)
    × (Loosely 0 [] (Bno ∷ []) image_a image_a (set_core 56 None image_a) → ⊥)

-- ---- so a list of 60 blocks that stays sends none to limbo

abbrev pub sixty : Group
sixty = record (image_a.group 0) { free_list = numbers 40 60 }

abbrev pub ListStays : Type 0
ListStays = MovesBlocks true [] (Ino ∷ []) sixty (record sixty { limbo = owned_by inobt 3 ∷ [] }) → ⊥

-- ---- an inode btree takes blocks of the list and gives its own back: no others, and each gets another owner

abbrev pub DoTurn : Type 0
DoTurn =
    (do_turn [] (Rmap ∷ Ino ∷ Fino ∷ []) (image_a.group 0) (owned_by ag 7 ∷ []) (owned_by inobt 7 ∷ []) ≡ true)
    × (do_turn [] (Rmap ∷ Ino ∷ Fino ∷ []) (image_a.group 0) (owned_by inobt 3 ∷ []) (owned_by ag 3 ∷ []) ≡ true)
    × (do_turn [] (Rmap ∷ Ino ∷ Fino ∷ []) (image_a.group 0) (owned_by ag 1 ∷ []) (owned_by inobt 1 ∷ []) ≡ false)
    × (do_turn [] (Rmap ∷ Ino ∷ Fino ∷ []) (image_a.group 0) (owned_by ag 7 ∷ []) (owned_by ag 7 ∷ []) ≡ false)
    × (do_turn [] (Rmap ∷ Ino ∷ Fino ∷ []) (image_a.group 0) (owned_by ag 7 ∷ []) [] ≡ false)

-- ---- marks: what a list is short of is less than a new tree's blocks; reverse mappings aren't marked by themselves where no
-- block moved, nor where a spare block of another unit than free space isn't noted; a trimming that is too large marks
-- nothing

abbrev pub MarksBounded : Type 0
MarksBounded =
    Explains before_step (done 32 6) Rmap nothing (most_put 0) (Short 0 2)
    × (Explains before_step (done 32 6) Rmap nothing (most_put 0) (Short 0 3) → ⊥)
    × ((s : IsStuck image_a 0 Missing) → s.old ≡ [] → ⊥)
    × (IsWanted image_a (entries.Reserved 0 units.Rmap 19 true) → ⊥)
    × (is_refused (entries.Trimmed (extent 0 7 12)) (Large 161) ≡ true)
    × (is_refused (entries.Trimmed (extent 0 7 12)) Missing ≡ false)

-- ---- a mark by itself that comes of a trimming stands at its start, where the list has more than 64 blocks: of 64 the same
-- run may go as one of several

abbrev pub sixty_four : State
sixty_four = in_group 0 (λ p. record p { free_list = numbers 7 12 ++ numbers 32 52 }) long_list

abbrev pub TrimsLong : Type 0
TrimsLong =
    IsWanted long_list (entries.Trimmed (extent 0 7 12))
    × MayTrim sixty_four (extent 0 7 12)
    × (IsWanted sixty_four (entries.Trimmed (extent 0 7 12)) → ⊥)

-- ---- a list is as an edit found it: a tree of 168 records may have taken two blocks before, and no third; one of three
-- blocks may have put two of them onto an empty list, and one of a single block none

abbrev pub with_list : ℕ → State
with_list n = in_group 0 (λ p. record p { free_list = numbers 7 n }) before_step

abbrev pub in_three : State
in_three = in_group 0 (set_blocks Rmap (5 ∷ 30 ∷ 31 ∷ [])) (with_list 0)

abbrev pub FindsShort : State → ℕ → ℕ → Type 0
FindsShort a have need = Explains a (done 32 6) Rmap nothing (most_put 0) (Short have need)

abbrev pub MayLack : ℕ → ℕ → ℕ → Type 0
MayLack n have need = FindsShort (with_list n) have need

abbrev pub ListLeft : Type 0
ListLeft =
    MayLack 2 0 2 × MayLack 3 1 2 × (MayLack 3 0 2 → ⊥)
    × FindsShort in_three 1 2 × (MayLack 0 1 2 → ⊥)
    × (listed_for image_a (entries.Reserved 0 units.Inode 7 false) ≡ 11)
    × (listed_for image_a (entries.Reserved 0 units.Inode 19 true) ≡ 12)
    × (listed_for short_list (entries.Refilled (extent 0 32 15)) ≡ 16)
    × (listed_for long_list (entries.Trimmed (extent 0 7 12)) ≡ 16)

-- ---- an inode btree has taken a front of the list, and no block behind it; but for those that trees of the list's owner
-- may have taken before, as reverse mappings of 168 records two. Where these only follow they take none before.

abbrev pub inode_trees : List Kind
inode_trees = Rmap ∷ Ino ∷ Fino ∷ []

abbrev pub crowded : Group
crowded = record ((crowd image_a).group 0) { free_list = numbers 7 12 }

abbrev pub turns : List Kind → Group → ℕ → Bool
turns before p b = do_turn before inode_trees p (owned_by ag b ∷ []) (owned_by inobt b ∷ [])

abbrev pub TurnsFront : Type 0
TurnsFront =
    (do_turn [] inode_trees (image_a.group 0) (owned_by ag 7 ∷ owned_by ag 8 ∷ []) (owned_by inobt 7 ∷ owned_by inobt 8 ∷ []) ≡ true)
    × (turns [] (image_a.group 0) 8 ≡ false)
    × (turns (Rmap ∷ []) crowded 9 ≡ true) × (turns (Rmap ∷ []) crowded 10 ≡ false) × (turns [] crowded 9 ≡ false)
    × (kinds_before (entries.Given 1 195) inode_trees ≡ [])
    × (kinds_before (entries.Taken 1 256 5 (Some 32)) (Bno ∷ Cnt ∷ inode_trees) ≡ Bno ∷ Cnt ∷ Rmap ∷ [])

-- ---- and no more blocks turn than these btrees take and give: of 252 chunks two, of two none; back all but a root

abbrev pub many_chunks : Group
many_chunks = change_tree Ino (λ i. tree_of (3 ∷ []) (map (λ k. chunk (64 * k) 0 0) (numbers 0 252))) (image_a.group 0)

abbrev pub FitsTrees : Type 0
FitsTrees =
    (fits_trees inode_trees many_chunks (owned_by ag 7 ∷ owned_by ag 8 ∷ []) ≡ true)
    × (fits_trees inode_trees many_chunks (owned_by ag 7 ∷ owned_by ag 8 ∷ owned_by ag 9 ∷ []) ≡ false)
    × (fits_trees inode_trees (image_a.group 0) (owned_by ag 7 ∷ []) ≡ false)
    × (fits_trees inode_trees (split_inodes true) (owned_by inobt 7 ∷ owned_by inobt 8 ∷ []) ≡ true)
    × (fits_trees inode_trees (image_a.group 0) (owned_by inobt 3 ∷ []) ≡ false)

-- ---- behind closed gates nothing is chosen, so no owner is found there

abbrev pub ClosedGates : Type 0
ClosedGates = (chosen image_a (λ g. false) 4 192 ≡ None) × (chunk_run image_a (λ g. false) ≡ None)

-- ---- a whole step of an image whose heads don't count the blocks of inode btrees

abbrev pub uncounted : State
uncounted = record image_a { geometry = record image_a.geometry { inobtcount = false } }

abbrev pub uncounted_file : State
uncounted_file = taken 0 195 195 7 None uncounted

abbrev pub Uncounted : Type 0
Uncounted =
    Leads uncounted (entries.Taken 1 195 7 None ∷ []) uncounted_file
    × ((uncounted_file.group 0).counters Iblocks ≡ (uncounted.group 0).counters Iblocks)
    × ((uncounted_file.group 0).counters Fblocks ≡ (uncounted.group 0).counters Fblocks)
    × ((uncounted_file.group 0).counters Freecount ≡ 60)

-- ---- a number that no inode btree lists, and a block outside of all groups, are no files: nothing is mapped there

abbrev pub NoFile : Type 0
NoFile = NoneAfter image_a (entries.Mapped (record (piece 0 32 6) { ino = 300 })) × NoneAfter image_a (entries.Unmapped (record (piece 0 32 6) { ino = 8 * 256 }))
