-- A rebuild of reverse mappings while a file is mapped: what the scan has seen, and what the new tree holds.
use Rattle.std.specs.Prelude.{◌≡◌, ◌-◌, ◌^◌, ◌==◌, ℕ, false, [], ◌∷◌, length, Some, None, if◌then◌else◌}
use Rattle.fs_model.specs.declared.entry.Entry.{Entry}
use Rattle.fs_model.specs.declared.entry.Entry.TheVariants as entries
use Rattle.fs_model.specs.declared.entry.Piece.{Piece}
use Rattle.fs_model.specs.declared.unit.Unit.TheVariants as units
use Rattle.fs_model.specs.declared.verdict.Verdict.TheVariants.{Rebuilt}
use Rattle.sblock.specs.declared.kind.Kind.TheVariants.{Rmap}
use Rattle.fs_state.specs.State.{State}
use Rattle.fs_state.specs.Faults.{faults}
use Rattle.fs_state.specs.Lists.{numbers}
use Rattle.fs_change.specs.Chains.{settled_forks, is_quiet}
use Rattle.fs_change.specs.Changes.{mapped, taken, judged, reserved}
use Rattle.fs_change.specs.Parts.{records_in}
use Rattle.fs_change.specs.Run.{Leads}
use Rattle.fs_change.specs.Scan.{shadow_of}
use Rattle.fs_change.specs.Switch.{switched}
use Rattle.test_states.specs.Images.{image, group_with, trees_a, tree_of, no_forks, counters_with, cores_to, core, mapped as owned, chunk, fs, ag, inobt, inodes, refc}
use Rattle.test_changes.specs.Files.{step_mapping}
use Rattle.test_changes.specs.Repairs.{in_blocks}

abbrev pub four_of : ℕ → Piece
four_of ino = record { writer = 1; chain = 0; ino = ino; offset = 0; group = 0; block = 19; count = 4 }

abbrev pub four_done : ℕ → Entry
four_done ino = entries.RmapDone 0 ino 0 19 4

-- ---- an inode that a chain holds is visited once the chain has let go of it: the new tree has its mapping once

abbrev pub two_empty : State
two_empty = image (group_with (numbers 7 12) (counters_with 59 229 224) (record trees_a { ino = tree_of (3 ∷ []) (chunk 192 59 (2 ^ 64 - 32) ∷ []); fino = tree_of (4 ∷ []) (chunk 192 59 (2 ^ 64 - 32) ∷ []) })) (cores_to 196) no_forks

abbrev pub held_mapped : State
held_mapped = mapped (four_of 196) two_empty

abbrev pub held_done : State
held_done = step_mapping held_mapped

abbrev pub held_reserved : State
held_reserved = reserved [] 0 units.Rmap 7 false held_done

abbrev pub held_rebuilt : State
held_rebuilt = judged 0 units.Rmap Rebuilt (switched held_reserved 0 units.Rmap (in_blocks (7 ∷ []) []))

abbrev pub HeldInode : Type 0
HeldInode =
    Leads two_empty (entries.Mapped (four_of 196) ∷ four_done 196 ∷ entries.Reserved 0 units.Rmap 7 false ∷ entries.Switched 0 units.Rmap 7 0 ∷ entries.Verdict 0 units.Rmap Rebuilt ∷ []) held_rebuilt
    -- the scan has passed 195 and waits
    × (shadow_of held_mapped 0 195 None 0 ≡ [])
    × (shadow_of held_done 0 195 None 0 ≡ [])
    -- and has visited it
    × (shadow_of held_done 0 196 None 0 ≡ settled_forks held_done 0)
    × (length (shadow_of held_done 0 196 None 0) ≡ 4)
    × (is_quiet held_mapped 0 ≡ false)
    × (records_in (held_rebuilt.group 0) Rmap ≡ owned 0 1 fs 0 ∷ owned 1 2 ag 0 ∷ owned 3 2 inobt 0 ∷ owned 5 1 ag 0 ∷ owned 6 1 refc 0 ∷ owned 7 12 ag 0 ∷ owned 19 4 196 (2 ^ 61) ∷ owned 24 8 inodes 0 ∷ [])
    × (faults held_rebuilt 0 units.Rmap ≡ [])

-- ---- an inode that is taken behind the cursor: its owners come with the finished step

abbrev pub one_later : State
one_later = image (group_with (numbers 7 12) (counters_with 60 229 224) (record trees_a { ino = tree_of (3 ∷ []) (chunk 192 60 (2 ^ 64 - 24) ∷ []); fino = tree_of (4 ∷ []) (chunk 192 60 (2 ^ 64 - 24) ∷ []) }))
    (λ i. if i == 195 then Some (core 0) else cores_to 196 i) no_forks

abbrev pub behind_taken : State
behind_taken = taken 0 195 195 7 None one_later

abbrev pub behind_mapped : State
behind_mapped = mapped (four_of 195) behind_taken

abbrev pub behind_done : State
behind_done = step_mapping behind_mapped

abbrev pub BehindCursor : Type 0
BehindCursor =
    Leads one_later (entries.Taken 1 195 7 None ∷ entries.Mapped (four_of 195) ∷ four_done 195 ∷ []) behind_done
    × (shadow_of behind_taken 0 196 None 0 ≡ [])
    × (shadow_of behind_mapped 0 196 None 0 ≡ [])
    × (shadow_of behind_done 0 196 None 0 ≡ settled_forks behind_done 0)
    × (length (shadow_of behind_done 0 196 None 0) ≡ 4)
