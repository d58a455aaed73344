-- What edits of damaged trees meet, where only the order or the whole of an edit decides.
use Rattle.std.specs.Prelude.{◌≡◌, ◌-◌, ◌^◌, ◌+◌, true, false, [], ◌∷◌, ◌++◌, List, ℕ, map, None}
use Rattle.fs_model.specs.declared.entry.Entry.TheVariants as entries
use Rattle.fs_model.specs.declared.entry.Piece.{Piece}
use Rattle.fs_model.specs.declared.fault.Counter.{Counter}
use Rattle.fs_model.specs.declared.fault.Counter.TheVariants.{Fblocks}
use Rattle.fs_model.specs.declared.fault.Cause.TheVariants.{Missing, Overlap}
use Rattle.rmap_recs.specs.declared.records.RmapRec.{RmapRec}
use Rattle.sblock.specs.declared.kind.Kind.{Kind}
use Rattle.sblock.specs.declared.kind.Kind.TheVariants.{Rmap, Refc, Cnt, Ino, Fino}
use Rattle.fs_state.specs.State.{State, Owned}
use Rattle.fs_state.specs.Lists.{numbers}
use Rattle.fs_change.specs.Changes.{unmapped, converted, shared, rmap_done, ref_done, marked, trimmed, taken}
use Rattle.fs_change.specs.Choice.{extent}
use Rattle.fs_change.specs.Edited.{met_by}
use Rattle.fs_change.specs.Loose.{laid_out, tree_blocks}
use Rattle.fs_change.specs.Met.{is_fault, nothing, met_moving}
use Rattle.fs_change.specs.Parts.{in_group, change_tree, records_in}
use Rattle.fs_change.specs.Run.{Leads}
use Rattle.fs_change.specs.Switch.{owned_by}
use Rattle.test_states.specs.Images.{counters_with, trees_a, tree_of, file_with, fork_with, span, shared as counted, mapped as owned, inodes, image, group_with, cores_to, no_forks, fs, ag, inobt, refc, chunk, mask}
use Rattle.test_states.specs.Rows.{shared_forty, six_mappings}
use Rattle.test_changes.specs.Files.{piece, done, first_of, rest_of, step_mapping, unwritten_mapping}
use Rattle.test_changes.specs.Refused.{third_place}

-- ---- a count of 2 ^ 32 - 1 can't rise. The record of block 40 hides one that has it too; a first event asks the former,
-- and before its step another chain takes that away: then the count has no record, and is left

abbrev pub hidden_count : State
hidden_count = in_group 0 (λ p. change_tree Refc (λ i. tree_of (6 ∷ []) (counted 30 20 (2 ^ 32 - 1) ∷ counted 40 1 2 ∷ [])) p) shared_forty

abbrev pub shared_once : State
shared_once = shared (third_place 8) hidden_count

abbrev pub told_once : State
told_once = step_mapping shared_once

-- the other chain's piece
abbrev pub other_piece : Piece
other_piece = record (piece 5 40 1) { chain = 1 }

abbrev pub other_gone : State
other_gone = unmapped other_piece told_once

abbrev pub other_told : State
other_told = rmap_done [] 1 (first_of (other_gone.chains 1)) (rest_of (other_gone.chains 1)) other_gone

abbrev pub other_counted : State
other_counted = ref_done [] 1 false (extent 0 40 1) (first_of (other_told.chains 1)) (rest_of (other_told.chains 1)) other_told

abbrev pub counts_left : State
counts_left = ref_done (Refc ∷ []) 0 true (extent 0 40 1) (first_of (other_counted.chains 0)) (rest_of (other_counted.chains 0)) other_counted

abbrev pub RisesTooFar : Type 0
RisesTooFar =
    Leads hidden_count (entries.Shared (third_place 8) ∷ done 40 1 ∷ []) told_once
    × Leads told_once (entries.Unmapped other_piece ∷ entries.RmapDone 1 195 0 40 1 ∷ entries.RefDone 1 0 40 1 false ∷ []) other_counted
    × Leads other_counted (entries.RefDone 0 0 40 1 true ∷ entries.Marked 0 Refc Missing ∷ []) (marked 0 Refc counts_left)
    × (records_in (counts_left.group 0) Refc ≡ counted 30 20 (2 ^ 32 - 1) ∷ [])

-- ---- a piece of an unwritten mapping is made written, where a stray record begins behind it: as one edit the two join, and
-- what is left behind the piece meets nothing

abbrev pub overlaid : State
overlaid = file_with (counters_with 60 219 206) (record trees_a {
  bno = tree_of (1 ∷ []) (span 19 5 ∷ span 32 8 ∷ span 50 206 ∷ []);
  cnt = tree_of (2 ∷ []) (span 19 5 ∷ span 32 8 ∷ span 50 206 ∷ []);
  rmap = tree_of (5 ∷ []) (six_mappings ++ owned 24 8 inodes 0 ∷ owned 40 10 195 (2 ^ 61) ∷ owned 45 2 195 5 ∷ []);
}) (fork_with (unwritten_mapping 0 40 10 ∷ []))

abbrev pub turned_whole : State
turned_whole = step_mapping (converted (piece 2 42 3) overlaid)

abbrev pub TurnsWhole : Type 0
TurnsWhole =
    Leads overlaid (entries.Converted (piece 2 42 3) ∷ done 42 3 ∷ []) turned_whole
    × (records_in (turned_whole.group 0) Rmap ≡ six_mappings ++ owned 24 8 inodes 0 ∷ owned 40 2 195 (2 ^ 61) ∷ owned 42 5 195 2 ∷ owned 45 5 195 (2 ^ 61 + 5) ∷ [])

-- ---- a list of 65 blocks is trimmed by two runs, with a free block between them: what the second joins has the key of a
-- stray record by count, and that of the first run alone meets none. So the mark stands at the second

abbrev pub five_mappings : List RmapRec
five_mappings = owned 0 1 fs 0 ∷ owned 1 2 ag 0 ∷ owned 3 2 inobt 0 ∷ owned 5 1 ag 0 ∷ owned 6 1 refc 0 ∷ []

abbrev pub stray : State
stray = image (group_with (numbers 32 19 ++ numbers 52 46) (counters_with 61 176 158) (record trees_a {
  bno = tree_of (1 ∷ []) (span 7 17 ∷ span 51 1 ∷ span 98 158 ∷ []);
  cnt = tree_of (2 ∷ []) (span 51 1 ∷ span 7 17 ∷ span 32 50 ∷ span 98 158 ∷ []);
  rmap = tree_of (5 ∷ []) (five_mappings ++ owned 24 8 inodes 0 ∷ owned 32 19 ag 0 ∷ owned 52 46 ag 0 ∷ []);
})) (cores_to 194) no_forks

abbrev pub TrimsBehind : Type 0
TrimsBehind =
    Leads stray (entries.Marked 0 Cnt Overlap ∷ []) (marked 0 Cnt stray)
    × (met_by stray (entries.Trimmed (extent 0 32 19)) Cnt ≡ nothing)
    × (met_by stray (entries.Trimmed (extent 0 52 30)) Cnt ≡ nothing)
    × (is_fault (met_by (trimmed (extent 0 32 19) stray) (entries.Trimmed (extent 0 52 30)) Cnt) ≡ true)

-- ---- the free inode btree gives its two leaves, blocks 40 and 41, to the list, and reverse mappings have block 41 twice. The
-- higher block goes first, so nothing is met; the lower one first would leave a second record of block 41

abbrev pub three_counted : Counter → ℕ
three_counted Fblocks = 3
three_counted name = counters_with 61 227 214 name

abbrev pub spread : State
spread = image (group_with (numbers 7 12) three_counted (record trees_a {
  bno = tree_of (1 ∷ []) (span 19 5 ∷ span 32 8 ∷ span 42 214 ∷ []);
  cnt = tree_of (2 ∷ []) (span 19 5 ∷ span 32 8 ∷ span 42 214 ∷ []);
  fino = tree_of (4 ∷ 41 ∷ 40 ∷ []) (chunk 192 61 mask ∷ []);
  rmap = tree_of (5 ∷ []) (six_mappings ++ owned 24 8 inodes 0 ∷ owned 40 2 inobt 0 ∷ owned 41 1 inobt 0 ∷ []);
})) (cores_to 194) no_forks

abbrev pub spread_taken : State
spread_taken = taken 0 195 195 7 None spread

abbrev pub in_one : Kind → List ℕ
in_one Fino = 4 ∷ []
in_one k = tree_blocks (spread_taken.group 0) k

abbrev pub gathered : State
gathered = in_group 0 (laid_out true [] (Rmap ∷ Ino ∷ Fino ∷ []) in_one (numbers 7 12 ++ 41 ∷ 40 ∷ []) []) spread_taken

abbrev pub pairs_from : ℕ → List ℕ → List Owned
pairs_from owner blocks = map (owned_by owner) blocks

abbrev pub MovesByBlock : Type 0
MovesByBlock =
    Leads spread (entries.Taken 1 195 7 None ∷ []) gathered
    × (records_in (gathered.group 0) Rmap ≡ six_mappings ++ owned 24 8 inodes 0 ∷ owned 40 2 ag 0 ∷ owned 41 1 inobt 0 ∷ [])
    × ((gathered.group 0).counters Fblocks ≡ 1)
    × (is_fault (met_moving (pairs_from inobt (40 ∷ 41 ∷ [])) (pairs_from ag (40 ∷ 41 ∷ [])) (records_in (spread.group 0) Rmap)) ≡ false)
    × (is_fault (met_moving (pairs_from inobt (41 ∷ 40 ∷ [])) (pairs_from ag (41 ∷ 40 ∷ [])) (records_in (spread.group 0) Rmap)) ≡ true)
