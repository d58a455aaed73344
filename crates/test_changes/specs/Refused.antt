-- Entries that say too much, or too little: no step has them.
use Rattle.std.specs.Prelude.{◌≡◌, ℕ, false, List, [], ◌∷◌, ◌++◌, None}
use Rattle.fs_model.specs.declared.entry.Entry.{Entry}
use Rattle.fs_model.specs.declared.entry.Entry.TheVariants as entries
use Rattle.fs_model.specs.declared.fault.Cause.TheVariants.{Missing, Owner, Block, Short}
use Rattle.fs_model.specs.declared.entry.SharedPiece.{SharedPiece}
use Rattle.fs_model.specs.declared.unit.Trust.TheVariants.{Sick}
use Rattle.fs_model.specs.declared.unit.Unit.TheVariants as units
use Rattle.fs_model.specs.declared.verdict.Verdict.TheVariants.{Good}
use Rattle.sblock.specs.declared.block.BlockFault.TheVariants.{Magic}
use Rattle.sblock.specs.declared.kind.Kind.{Kind}
use Rattle.sblock.specs.declared.kind.Kind.TheVariants.{Bno, Cnt, Rmap, Refc, Ino}
use Rattle.fs_state.specs.State.{State}
use Rattle.fs_change.specs.Changes.{judged, marked, taken, data_of, give_owner}
use Rattle.fs_change.specs.Choice.{extent}
use Rattle.fs_change.specs.Parts.{in_group, change_tree, set_trust, records_in}
use Rattle.fs_change.specs.Marks.{IsLone}
use Rattle.fs_change.specs.Run.{Leads}
use Rattle.fs_change.specs.Step.{Step}
use Rattle.test_states.specs.Images.{image_a, tree_of, shared as counted, mapped, free_a, inodes}
use Rattle.test_states.specs.Rows.{shared_forty, unread_free, on_heads, six_mappings, two}
use Rattle.test_changes.specs.Files.{piece, file_made, with_owner}
use Rattle.test_changes.specs.Lists.{short_list}
use Rattle.test_changes.specs.Repairs.{free_rebuilt}

-- no state comes after this entry
abbrev pub NoneAfter : State → Entry → Type 0
NoneAfter a e = (left : List Kind) (b : State) → Step a left e b → ⊥

-- a verdict that empties the free list; a mark that empties that of another group
abbrev pub without_list : ℕ → State → State
without_list g a = in_group g (λ p. record p { free_list = [] }) a

abbrev pub SayTooMuch : Type 0
SayTooMuch =
    (Step image_a [] (entries.Verdict 0 units.Rmap Good) (without_list 0 (judged 0 units.Rmap Good image_a)) → ⊥)
    × (Step two [] (entries.Marked 0 Bno Missing) (without_list 1 (marked 0 Bno two)) → ⊥)

-- one that empties that of a group behind the last one
abbrev pub BehindStays : Type 0
BehindStays = Step image_a [] (entries.Verdict 0 units.Rmap Good) (without_list 7 (judged 0 units.Rmap Good image_a)) → ⊥

-- a step of a chain that owes nothing; a piece that isn't mapped there; a piece of no blocks
abbrev pub NothingToDo : Type 0
NothingToDo =
    NoneAfter image_a (entries.RmapDone 0 195 0 40 1)
    × NoneAfter shared_forty (entries.Unmapped (piece 5 41 1))
    × NoneAfter shared_forty (entries.Unmapped (piece 5 40 0))

-- a run that is freed though it has an owner; a reaped run of no blocks, and one that isn't in limbo
abbrev pub NotToBeFreed : Type 0
NotToBeFreed = NoneAfter with_owner (entries.Freed 0 0 40 1 false) × NoneAfter free_rebuilt (entries.Reaped (extent 0 2 0)) × NoneAfter free_rebuilt (entries.Reaped (extent 0 3 1))

-- a switch without a reserve; one of what contradicts itself; a block that isn't the list's first
abbrev pub NotToBeSwitched : Type 0
NotToBeSwitched =
    NoneAfter unread_free (entries.Switched 0 units.Free 7 8)
    × NoneAfter on_heads (entries.Switched 0 units.Rmap 7 0)
    × NoneAfter unread_free (entries.Reserved 0 units.Free 8 false)

-- a bad block of a tree that is sick already; a list that is too short for a tree of two records
abbrev pub NotToBeMarked : Type 0
NotToBeMarked = (IsLone unread_free 0 Bno (Block 77 Magic) → ⊥) × (IsLone image_a 0 Bno (Short 0 1) → ⊥)

-- a list of one block isn't filled above 16; an inode isn't given back while its btree is sick
abbrev pub empty_file : State
empty_file = in_group 0 (set_trust Sick Ino) file_made

abbrev pub NotToBeGiven : Type 0
NotToBeGiven = NoneAfter short_list (entries.Refilled (extent 0 32 224)) × NoneAfter empty_file (entries.Given 1 195) × NoneAfter image_a (entries.Verdict 7 units.Inode Good)

-- a block with so many owners isn't shared once more
abbrev pub most_shared : State
most_shared = in_group 0 (λ p. change_tree Refc (λ i. tree_of (6 ∷ []) (counted 40 1 4294967200 ∷ [])) p) shared_forty

abbrev pub third_place : ℕ → SharedPiece
third_place offset = record { writer = 1; chain = 0; from = 195; from_offset = 0; to = 195; to_offset = offset; group = 0; block = 40; count = 1 }

abbrev pub NotToBeShared : Type 0
NotToBeShared = NoneAfter most_shared (entries.Shared (third_place 9))

-- a run of free space that reverse mappings give to somebody isn't taken: both indexes are marked, and the file stays empty
abbrev pub owned_space : State
owned_space = in_group 0 (give_owner [] inodes (extent 0 19 5)) file_made

abbrev pub NotToBeTaken : Type 0
NotToBeTaken = NoneAfter owned_space (entries.Mapped (piece 0 19 3))

abbrev pub owned_before : State
owned_before = in_group 0 (λ p. change_tree Rmap (λ i. tree_of (5 ∷ []) (six_mappings ++ mapped 19 5 inodes 0 ∷ mapped 24 8 inodes 0 ∷ [])) p) image_a

abbrev pub both_marked : State
both_marked = marked 0 Cnt (marked 0 Bno (taken 0 195 195 7 None owned_before))

abbrev pub OwnedSpace : Type 0
OwnedSpace =
    Leads owned_before (entries.Taken 1 195 7 None ∷ entries.Marked 0 Bno Owner ∷ entries.Marked 0 Cnt Owner ∷ []) both_marked
    × (data_of both_marked 195 ≡ [])
    × (((both_marked.group 0).tree Bno).trust ≡ Sick) × (((both_marked.group 0).tree Cnt).trust ≡ Sick)
    × (records_in (both_marked.group 0) Bno ≡ free_a)
