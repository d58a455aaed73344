-- Which trees an entry edits, which of them it may leave as they were, and what its edits meet.
use Rattle.std.specs.Prelude.{ℕ, ◌+◌, ◌*◌, ◌/◌, ◌%◌, Bool, true, false, not, ◌&&◌, ◌||◌, List, [], ◌∷◌, filter, Some, None, if◌then◌else◌}
use Rattle.std.specs.List.{list_all}
use Rattle.std.specs.Option.{option_map_or}
use Rattle.fs_model.specs.declared.entry.Entry.{Entry}
use Rattle.fs_model.specs.declared.entry.Entry.TheVariants as entries
use Rattle.fs_model.specs.declared.entry.Extent.{Extent}
use Rattle.fs_model.specs.declared.unit.Unit.{Unit as ScrubUnit}
use Rattle.fs_model.specs.declared.unit.Unit.TheVariants as units
use Rattle.geom.specs.Layout.{split_of}
use Rattle.rmap_recs.specs.Owners.{number_of}
use Rattle.rmap_recs.specs.declared.owner.Owner.TheVariants.{Ag, Inodes}
use Rattle.rmap_recs.specs.declared.records.RmapRec.{RmapRec}
use Rattle.sblock.specs.declared.kind.Kind.{Kind}
use Rattle.sblock.specs.declared.kind.Kind.TheVariants.{Bno, Cnt, Rmap, Refc, Ino, Fino}
use Rattle.fs_state.specs.Group.{is_among}
use Rattle.fs_state.specs.State.{State, Group}
use Rattle.fs_state.specs.declared.intent.Intent.{Intent}
use Rattle.fs_change.specs.Changes.{extent_of, known_spans, plain_run, new_count, changes_count, owner_of_run, joins_no_space, free_chunk, chunk_extent, block_extent}
use Rattle.fs_change.specs.Choice.{extent, group_or_first}
use Rattle.fs_change.specs.Met.{Met, nothing, is_fault, met_taking, met_taking_count, met_giving, met_giving_count, met_losing, met_gaining, met_turning, met_mapping, met_counting, met_freeing, met_following, met_listing}
use Rattle.fs_change.specs.Parts.{is_edited, sick_in, records_in}
use Rattle.fs_change.specs.Records.{span}
use Rattle.fs_change.specs.Switch.{unit_owner}

-- ---- groups

abbrev pub group_of_inode : State → ℕ → ℕ
group_of_inode a ino = group_or_first (split_of a.geometry (ino / 8))

-- the group that an entry is about
abbrev pub group_of_entry : State → Entry → ℕ
group_of_entry a (entries.Mapped m) = m.group
group_of_entry a (entries.Unmapped m) = m.group
group_of_entry a (entries.Converted m) = m.group
group_of_entry a (entries.Shared m) = m.group
group_of_entry a (entries.RmapDone c ino g b n) = g
group_of_entry a (entries.RefDone c g b n more) = g
group_of_entry a (entries.Freed c g b n kept) = g
group_of_entry a (entries.Taken writer ino uid chunk) = group_of_inode a ino
group_of_entry a (entries.Given writer ino) = group_of_inode a ino
group_of_entry a (entries.Refilled e) = e.group
group_of_entry a (entries.Trimmed e) = e.group
group_of_entry a (entries.Marked g k cause) = g
group_of_entry a (entries.Reserved g unit b spare) = g
group_of_entry a (entries.Released g unit) = g
group_of_entry a (entries.Fault g unit fault) = g
group_of_entry a (entries.Verdict g unit verdict) = g
group_of_entry a (entries.Switched g unit root second) = g
group_of_entry a (entries.Reaped e) = e.group
group_of_entry a (entries.Reply writer line code done refused begun) = 0

-- ---- trees

-- a count that falls changes nothing where it has no record; where counts are sick no block moves
abbrev pub edits_count : Group → ℕ → Bool → List Kind
edits_count p b more = if changes_count more (records_in p Refc) b && not (sick_in p Refc) then Refc ∷ Rmap ∷ [] else []

-- a block of the list has its owner already where the group's own trees are rebuilt; a spare one leaves free space, unless
-- that is rebuilt
abbrev pub edits_reserve : ScrubUnit → Bool → List Kind
edits_reserve units.Inode false = Rmap ∷ []
edits_reserve units.Refc false = Rmap ∷ []
edits_reserve units.Rmap false = []
edits_reserve units.Free false = []
edits_reserve units.Free true = Rmap ∷ []
edits_reserve units.Rmap true = Bno ∷ Cnt ∷ []
edits_reserve units.Inode true = Bno ∷ Cnt ∷ Rmap ∷ []
edits_reserve units.Refc true = Bno ∷ Cnt ∷ Rmap ∷ []

-- a reaped run joins free space unless that is sick or another has it
abbrev pub edits_reaped : Group → Extent → List Kind
edits_reaped p e = if joins_no_space (owner_of_run p e) e p then Rmap ∷ [] else Bno ∷ Cnt ∷ Rmap ∷ []

-- Which trees does an entry edit? Reverse mappings too where a tree with another owner than the list's is edited.
abbrev pub edited_kinds : State → Entry → List Kind
edited_kinds a (entries.Mapped m) = Bno ∷ Cnt ∷ []
edited_kinds a (entries.RmapDone c ino g b n) = Rmap ∷ []
edited_kinds a (entries.RefDone c g b n more) = edits_count (a.group g) b more
edited_kinds a (entries.Freed c g b n false) = Bno ∷ Cnt ∷ []
edited_kinds a (entries.Taken writer ino uid None) = Rmap ∷ Ino ∷ Fino ∷ []
edited_kinds a (entries.Taken writer ino uid (Some b)) = Bno ∷ Cnt ∷ Rmap ∷ Ino ∷ Fino ∷ []
edited_kinds a (entries.Given writer ino) = Rmap ∷ Ino ∷ Fino ∷ []
edited_kinds a (entries.Refilled e) = Bno ∷ Cnt ∷ Rmap ∷ []
edited_kinds a (entries.Trimmed e) = Bno ∷ Cnt ∷ Rmap ∷ []
edited_kinds a (entries.Reserved g unit b spare) = edits_reserve unit spare
edited_kinds a (entries.Reaped e) = edits_reaped (a.group e.group) e
edited_kinds a e = []

-- whether the row itself asks for an edit of the tree: beside these reverse mappings follow moved blocks alone
abbrev pub is_asked : Entry → Kind → Bool
is_asked (entries.RefDone c g b n more) Rmap = false
is_asked (entries.Taken writer ino uid None) Rmap = false
is_asked (entries.Given writer ino) Rmap = false
is_asked e k = true

-- those that aren't sick and weren't left
abbrev pub edited_in : State → List Kind → Entry → List Kind
edited_in a left e = filter (is_edited left (a.group (group_of_entry a e))) (edited_kinds a e)

-- steps, a reaped run and a reserved block go on without an index whose edit met a fault; but a spare block of a rebuild
-- of free space is reserved only where its owner is noted
abbrev pub may_leave : State → Entry → List Kind
may_leave a (entries.RmapDone c ino g b n) = edited_in a [] (entries.RmapDone c ino g b n)
may_leave a (entries.RefDone c g b n more) = edited_in a [] (entries.RefDone c g b n more)
may_leave a (entries.Freed c g b n kept) = edited_in a [] (entries.Freed c g b n kept)
may_leave a (entries.Reserved g units.Free b true) = []
may_leave a (entries.Reserved g unit b spare) = edited_in a [] (entries.Reserved g unit b spare)
may_leave a (entries.Reaped e) = edited_in a [] (entries.Reaped e)
may_leave a e = []

-- ---- what the edits meet

abbrev pub met_by_taking : Group → Extent → Kind → Met
met_by_taking p e Bno = met_taking (records_in p Bno) (span e.block e.count)
met_by_taking p e Cnt = met_taking_count (known_spans p) (span e.block e.count) (records_in p Cnt)
met_by_taking p e k = nothing

abbrev pub met_by_giving : Group → Extent → Kind → Met
met_by_giving p e Bno = met_giving (records_in p Bno) (span e.block e.count)
met_by_giving p e Cnt = met_giving_count (known_spans p) (span e.block e.count) (records_in p Cnt)
met_by_giving p e k = nothing

abbrev pub met_by_next : List Intent → List RmapRec → Met
met_by_next [] recs = nothing
met_by_next (i ∷ is) recs = met_mapping i.kind i recs

abbrev pub met_by_chunk : Group → ℕ → ℕ → Kind → Met
met_by_chunk p g b Rmap = met_gaining (plain_run (number_of Inodes) (chunk_extent g b)) (records_in p Rmap)
met_by_chunk p g b Ino = met_listing (free_chunk b) (records_in p Ino)
met_by_chunk p g b Fino = met_listing (free_chunk b) (records_in p Fino)
met_by_chunk p g b k = met_by_taking p (chunk_extent g b) k

-- the place of an inode in its group's inode space
abbrev pub place_of : State → ℕ → ℕ
place_of a ino = option_map_or (λ p. 8 * p.1 + ino % 8) (split_of a.geometry (ino / 8)) 0

abbrev pub met_by_giving_back : Group → ℕ → Kind → Met
met_by_giving_back p i Ino = met_freeing i (records_in p Ino)
met_by_giving_back p i Fino = met_following i (records_in p Ino) (records_in p Fino)
met_by_giving_back p i k = nothing

abbrev pub met_by_reserve : Group → ScrubUnit → Extent → Bool → Kind → Met
met_by_reserve p unit e false Rmap = met_turning (plain_run (number_of Ag) e) (plain_run (unit_owner unit) e) (records_in p Rmap)
met_by_reserve p unit e true Rmap = met_gaining (plain_run (unit_owner unit) e) (records_in p Rmap)
met_by_reserve p unit e spare k = met_by_taking p e k

-- What does the entry's edit of this tree meet, where it edits it?
abbrev pub met_by : State → Entry → Kind → Met
met_by a (entries.Mapped m) k = met_by_taking (a.group m.group) (extent_of m) k
met_by a (entries.RmapDone c ino g b n) k = met_by_next (a.chains c) (records_in (a.group g) Rmap)
met_by a (entries.RefDone c g b n more) Refc = met_counting b n (new_count more (records_in (a.group g) Refc) b) (records_in (a.group g) Refc)
met_by a (entries.Freed c g b n kept) k = met_by_giving (a.group g) (extent g b n) k
met_by a (entries.Taken writer ino uid (Some b)) k = met_by_chunk (a.group (group_of_inode a ino)) (group_of_inode a ino) b k
met_by a (entries.Given writer ino) k = met_by_giving_back (a.group (group_of_inode a ino)) (place_of a ino) k
met_by a (entries.Refilled e) Rmap = met_gaining (plain_run (number_of Ag) e) (records_in (a.group e.group) Rmap)
met_by a (entries.Refilled e) k = met_by_taking (a.group e.group) e k
met_by a (entries.Trimmed e) Rmap = met_losing (plain_run (number_of Ag) e) (records_in (a.group e.group) Rmap)
met_by a (entries.Trimmed e) k = met_by_giving (a.group e.group) e k
met_by a (entries.Reserved g unit b spare) k = met_by_reserve (a.group g) unit (block_extent g b) spare k
met_by a (entries.Reaped e) Rmap = met_losing (plain_run (owner_of_run (a.group e.group) e) e) (records_in (a.group e.group) Rmap)
met_by a (entries.Reaped e) k = met_by_giving (a.group e.group) e k
met_by a e k = nothing

-- Is each tree left whose edit meets a fault?
unfoldable pub leaves_faults : State → List Kind → Entry → Bool
leaves_faults a left e = list_all (λ k. is_among k left || not (is_fault (met_by a e k))) (edited_in a [] e)
