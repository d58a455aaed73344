-- What writers' entries make of small images: a file that grows, one that shrinks, pieces that are shared and made written.
use Rattle.std.specs.Prelude.{◌≡◌, ◌-◌, ◌^◌, ℕ, Bool, true, false, List, [], ◌∷◌, ◌++◌, Some, None}
use Rattle.dinode_core.specs.declared.mapping.Mapping.{Mapping}
use Rattle.fs_model.specs.declared.entry.Entry.{Entry}
use Rattle.fs_model.specs.declared.entry.Entry.TheVariants as entries
use Rattle.fs_model.specs.declared.entry.Piece.{Piece}
use Rattle.fs_model.specs.declared.entry.SharedPiece.{SharedPiece}
use Rattle.fs_model.specs.declared.fault.Cause.TheVariants.{Owner}
use Rattle.fs_model.specs.declared.fault.Counter.TheVariants.{Freecount, Freeblks, Longest}
use Rattle.fs_model.specs.declared.fault.Fault.TheVariants.{Extra}
use Rattle.fs_model.specs.declared.«record».AnyRec.TheVariants as recs
use Rattle.fs_model.specs.declared.unit.Trust.TheVariants.{Sick}
use Rattle.fs_model.specs.declared.unit.Unit.TheVariants as units
use Rattle.sblock.specs.declared.kind.Kind.TheVariants.{Bno, Cnt, Rmap, Refc, Ino}
use Rattle.fs_state.specs.State.{State}
use Rattle.fs_state.specs.Faults.{faults}
use Rattle.fs_change.specs.Chains.{settled_forks, settled_own, is_quiet}
use Rattle.fs_change.specs.Changes.{mapped, unmapped, converted, shared, rmap_done, ref_done, freed, taken, marked, data_of, give_owner}
use Rattle.fs_change.specs.Choice.{extent}
use Rattle.fs_change.specs.Loose.{is_touched}
use Rattle.fs_change.specs.Marks.{why_left, once_each}
use Rattle.fs_change.specs.Marks.Why.{NoEdit}
use Rattle.fs_change.specs.Parts.{in_group, records_in}
use Rattle.fs_change.specs.Run.{Leads}
use Rattle.fs_change.specs.Scan.{shadow_of}
use Rattle.fs_change.specs.Step.{edited_kinds}
use Rattle.fs_state.specs.declared.intent.Intent.{Intent}
use Rattle.fs_state.specs.declared.intent.IntentKind.TheVariants.{Free}
use Rattle.test_states.specs.Images.{image_a, trees_a, tree_of, file_with, fork_with, counters_with, span, shared as counted, mapped as owned, chunk, mapping, fs, inodes}
use Rattle.test_states.specs.Rows.{shared_forty, unshared_forty, six_mappings}

abbrev pub piece : ℕ → ℕ → ℕ → Piece
piece offset block count = record { writer = 1; chain = 0; ino = 195; offset = offset; group = 0; block = block; count = count }

abbrev pub done : ℕ → ℕ → Entry
done block count = entries.RmapDone 0 195 0 block count

abbrev pub lowered : ℕ → ℕ → Entry
lowered block count = entries.RefDone 0 0 block count false

-- the chain's next intent, and what comes behind it
abbrev pub first_of : List Intent → Intent
first_of [] = record { kind = Free; ino = 0; word = 0; group = 0; block = 0; count = 0 }
first_of (i ∷ is) = i

abbrev pub rest_of : List Intent → List Intent
rest_of [] = []
rest_of (i ∷ is) = is

abbrev pub step_mapping : State → State
step_mapping a = rmap_done [] 0 (first_of (a.chains 0)) (rest_of (a.chains 0)) a

abbrev pub step_count : Bool → ℕ → ℕ → State → State
step_count more b n a = ref_done [] 0 more (extent 0 b n) (first_of (a.chains 0)) (rest_of (a.chains 0)) a

abbrev pub step_free : Bool → ℕ → ℕ → State → State
step_free kept b n a = freed [] 0 kept (extent 0 b n) (rest_of (a.chains 0)) a

-- ---- a file is made and grows: six blocks come from the longer run, the next one from the shorter

abbrev pub file_made : State
file_made = taken 0 195 195 7 None image_a

abbrev pub grown_six : State
grown_six = step_mapping (mapped (piece 0 32 6) file_made)

abbrev pub grown_seven : State
grown_seven = step_mapping (mapped (piece 6 19 1) grown_six)

abbrev pub unwritten_mapping : ℕ → ℕ → ℕ → Mapping
unwritten_mapping offset block count = record { offset = offset; block = block; count = count; unwritten = true }

abbrev pub GrowingFile : Type 0
GrowingFile =
    Leads image_a (entries.Taken 1 195 7 None ∷ entries.Mapped (piece 0 32 6) ∷ done 32 6 ∷ entries.Mapped (piece 6 19 1) ∷ done 19 1 ∷ []) grown_seven
    × (records_in (grown_seven.group 0) Bno ≡ span 20 4 ∷ span 38 218 ∷ [])
    × (records_in (grown_seven.group 0) Cnt ≡ span 20 4 ∷ span 38 218 ∷ [])
    × (records_in (grown_seven.group 0) Ino ≡ chunk 192 60 (2 ^ 64 - 16) ∷ [])
    × (data_of grown_seven 195 ≡ unwritten_mapping 0 32 6 ∷ unwritten_mapping 6 19 1 ∷ [])
    × ((grown_seven.group 0).counters Freeblks ≡ 222)
    × ((grown_seven.group 0).counters Longest ≡ 218)
    × ((grown_seven.group 0).counters Freecount ≡ 60)
    × (faults grown_seven 0 units.Inode ≡ []) × (faults grown_seven 0 units.Rmap ≡ []) × (faults grown_seven 0 units.Free ≡ [])

-- ---- while its owner isn't told yet: the settled owners are as before, and so is what a scan behind it has seen

abbrev pub MappedHalfway : Type 0
MappedHalfway =
    (settled_forks (mapped (piece 0 32 6) file_made) 0 ≡ settled_forks file_made 0)
    × (settled_own (mapped (piece 0 32 6) file_made) 0 ≡ settled_own file_made 0)
    × (is_quiet (mapped (piece 0 32 6) file_made) 0 ≡ false)
    × (shadow_of (mapped (piece 0 32 6) file_made) 0 195 None 0 ≡ [])
    × (shadow_of grown_six 0 194 None 0 ≡ [])
    × (shadow_of grown_six 0 195 None 0 ≡ settled_forks grown_six 0)
    × (shadow_of grown_six 0 194 (Some 195) 1 ≡ settled_forks grown_six 0)

-- ---- a file that maps a block twice loses one of these, and then the other

abbrev pub lost_one : State
lost_one = step_count false 40 1 (step_mapping (unmapped (piece 5 40 1) shared_forty))

abbrev pub lost_both : State
lost_both = step_count false 40 1 (step_mapping (unmapped (piece 0 40 1) lost_one))

abbrev pub all_freed : State
all_freed = step_free false 40 1 lost_both

abbrev pub ShrinkingFile : Type 0
ShrinkingFile =
    Leads shared_forty (entries.Unmapped (piece 5 40 1) ∷ done 40 1 ∷ lowered 40 1 ∷ []) lost_one
    × (records_in (lost_one.group 0) Rmap ≡ records_in (unshared_forty.group 0) Rmap)
    × (records_in (lost_one.group 0) Refc ≡ [])
    × (lost_one.chains 0 ≡ [])
    × Leads lost_one (entries.Unmapped (piece 0 40 1) ∷ done 40 1 ∷ lowered 40 1 ∷ entries.Freed 0 0 40 1 false ∷ []) all_freed
    × (records_in (all_freed.group 0) Bno ≡ span 19 5 ∷ span 32 224 ∷ [])
    × (faults all_freed 0 units.Rmap ≡ []) × (faults all_freed 0 units.Free ≡ [])

-- ---- reverse mappings aren't marked for a step of counts that moves no block, and no tree is marked twice

abbrev pub owner_gone : State
owner_gone = step_mapping (unmapped (piece 5 40 1) shared_forty)

abbrev pub MarkedOnce : Type 0
MarkedOnce =
    (edited_kinds owner_gone (lowered 40 1) ≡ Refc ∷ Rmap ∷ [])
    × (edited_kinds (marked 0 Refc owner_gone) (lowered 40 1) ≡ [])
    × (why_left owner_gone lost_one lost_one (lowered 40 1) Rmap ≡ NoEdit)
    × (once_each (Refc ∷ Rmap ∷ Refc ∷ []) ≡ Refc ∷ Rmap ∷ [])
    -- a block that an edit took from the list may hold other cores behind it, and each other one of the list stays
    × (is_touched (7 ∷ []) (image_a.group 0) (image_a.group 0) 7 ≡ true)
    × (is_touched (7 ∷ []) (image_a.group 0) (image_a.group 0) 8 ≡ false)

-- ---- an owner of the block that was there all along is found before it is freed

abbrev pub with_owner : State
with_owner = in_group 0 (give_owner [] fs (extent 0 40 1)) lost_both

abbrev pub kept_block : State
kept_block = marked 0 Refc (step_free true 40 1 with_owner)

abbrev pub OwnerFound : Type 0
OwnerFound =
    Leads with_owner (entries.Freed 0 0 40 1 true ∷ entries.Marked 0 Refc Owner ∷ []) kept_block
    × (records_in (kept_block.group 0) Bno ≡ records_in (with_owner.group 0) Bno)
    × (((kept_block.group 0).tree Refc).trust ≡ Sick)

-- ---- a piece of an unwritten mapping is made written

abbrev pub unwritten_file : State
unwritten_file = file_with (counters_with 60 227 214) (record trees_a {
  bno = tree_of (1 ∷ []) (span 19 5 ∷ span 32 8 ∷ span 42 214 ∷ []);
  cnt = tree_of (2 ∷ []) (span 19 5 ∷ span 32 8 ∷ span 42 214 ∷ []);
  rmap = tree_of (5 ∷ []) (six_mappings ++ owned 24 8 inodes 0 ∷ owned 40 2 195 (2 ^ 61) ∷ []);
}) (fork_with (unwritten_mapping 0 40 2 ∷ []))

abbrev pub half_written : State
half_written = step_mapping (converted (piece 1 41 1) unwritten_file)

abbrev pub ConvertedPiece : Type 0
ConvertedPiece =
    Leads unwritten_file (entries.Converted (piece 1 41 1) ∷ done 41 1 ∷ []) half_written
    × (data_of half_written 195 ≡ unwritten_mapping 0 40 1 ∷ mapping 1 41 1 ∷ [])
    × (settled_forks (converted (piece 1 41 1) unwritten_file) 0 ≡ settled_forks unwritten_file 0)
    × (faults half_written 0 units.Rmap ≡ [])

-- ---- a piece is mapped a second time

abbrev pub second_place : SharedPiece
second_place = record { writer = 1; chain = 0; from = 195; from_offset = 0; to = 195; to_offset = 8; group = 0; block = 40; count = 1 }

abbrev pub shared_twice : State
shared_twice = step_count true 40 1 (step_mapping (shared second_place unshared_forty))

abbrev pub SharedPieceRow : Type 0
SharedPieceRow =
    Leads unshared_forty (entries.Shared second_place ∷ done 40 1 ∷ entries.RefDone 0 0 40 1 true ∷ []) shared_twice
    × (records_in (shared_twice.group 0) Refc ≡ counted 40 1 2 ∷ [])
    × (faults shared_twice 0 units.Rmap ≡ [])

-- ---- a crash after an unmapping's fork: its reverse mapping is extra

abbrev pub cut_off : State
cut_off = unmapped (piece 0 32 6) (step_mapping (mapped (piece 0 32 6) file_made))

abbrev pub CutUnmapping : Type 0
CutUnmapping =
    (faults cut_off 0 units.Rmap ≡ Extra (recs.Rmap (owned 32 6 195 (2 ^ 61))) ∷ [])
    × (settled_forks cut_off 0 ≡ settled_forks grown_six 0)
