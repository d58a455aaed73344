-- The state after an entry of the journal: all that the entry decides, a definition for each. `left` has the trees that
-- the event left as they were, since an edit met a fault.
use Rattle.std.specs.Prelude.{ℕ, ◌+◌, ◌-◌, ◌*◌, ◌%◌, ◌^◌, ◌==◌, ◌&&◌, ◌||◌, nat_le, nat_lt, Bool, true, false, not, List, [], ◌∷◌, ◌++◌, filter, find, drop, sum_by, Option, Some, None, is_some, Ok, if◌then◌else◌}
use Rattle.std.specs.Option.{option_map_or}
use Rattle.derive_defs.specs.ByCount.{put_in}
use Rattle.dinode_core.specs.declared.mapping.Fork.TheVariants as forks
use Rattle.dinode_core.specs.declared.mapping.Mapping.{Mapping}
use Rattle.fs_model.specs.declared.entry.Extent.{Extent}
use Rattle.fs_model.specs.declared.entry.Piece.{Piece}
use Rattle.fs_model.specs.declared.entry.SharedPiece.{SharedPiece}
use Rattle.fs_model.specs.declared.fault.Counter.{Counter}
use Rattle.fs_model.specs.declared.fault.Counter.TheVariants.{Count, Freecount, Freeblks, Longest}
use Rattle.fs_model.specs.declared.unit.Trust.TheVariants as trusts
use Rattle.fs_model.specs.declared.unit.Unit.{Unit as ScrubUnit}
use Rattle.fs_model.specs.declared.unit.Unit.TheVariants as units
use Rattle.fs_model.specs.declared.verdict.Verdict.{Verdict}
use Rattle.fs_model.specs.declared.verdict.Verdict.TheVariants as verdicts
use Rattle.geom.specs.Layout.{fs_block_of}
use Rattle.ino_recs.specs.declared.chunk.InoRec.{InoRec}
use Rattle.rmap_recs.specs.Owners.{number_of}
use Rattle.rmap_recs.specs.declared.owner.Owner.TheVariants.{Ag, Inodes}
use Rattle.rmap_recs.specs.declared.records.RmapRec.{RmapRec}
use Rattle.span_recs.specs.declared.span.SpanRec.{SpanRec}
use Rattle.span_recs.specs.declared.refcount.RefcRec.{RefcRec}
use Rattle.sblock.specs.declared.kind.Kind.{Kind}
use Rattle.sblock.specs.declared.kind.Kind.TheVariants.{Bno, Cnt, Rmap, Refc, Ino, Fino}
use Rattle.fs_state.specs.State.{State, Group, Owned, CoreState, Broken, Whole, ForkList}
use Rattle.fs_state.specs.declared.intent.Intent.{Intent}
use Rattle.fs_state.specs.declared.intent.IntentKind.{IntentKind}
use Rattle.fs_state.specs.declared.intent.IntentKind.TheVariants.{RmapAdd, RmapRemove, RmapChange, RefMore, RefLess, Free}
use Rattle.fs_state.specs.Claims.{unwritten, fork_of}
use Rattle.fs_state.specs.Records.{kinds_of}
use Rattle.fs_state.specs.Lists.{numbers, only_if}
use Rattle.fs_change.specs.Chains.{run_of, word_taken}
use Rattle.fs_change.specs.Choice.{is_guarded}
use Rattle.fs_change.specs.Parts.{in_group, set_chain, set_core, set_data, set_cores, set_trust, set_trusts, edit, is_edited, sick_in, records_in}
use Rattle.fs_change.specs.Records.{span, by_start, take_span, give_span, give_mapping, take_mapping, counter_of, count_at, set_count, turn_inode, put_chunk, follow_inode, add_mapping, take_piece, is_unwritten_at}
use Rattle.fs_change.specs.Switch.{unit_owner, owned_by, join_limbo}

-- ---- free space and its counters

abbrev pub by_count : SpanRec → List SpanRec → List SpanRec
by_count r rs = put_in r rs

-- the records by start say what a run is part of, unless they are sick
abbrev pub known_spans : Group → List SpanRec
known_spans p = if sick_in p Bno then [] else records_in p Bno

abbrev pub space_edit : ((SpanRec → List SpanRec → List SpanRec) → List SpanRec → SpanRec → List SpanRec → List SpanRec) → List Kind → Extent → Group → Group
space_edit f left e p =
    edit left Cnt (f by_count (known_spans p) (span e.block e.count)) (edit left Bno (f by_start (records_in p Bno) (span e.block e.count)) p)

-- a counter follows by the difference, modulo 2 ^ 32
abbrev pub follow : ℕ → ℕ → ℕ → ℕ
follow counter before now = (counter + now + (2 ^ 32 - before % 2 ^ 32)) % 2 ^ 32

abbrev pub last_count : List SpanRec → ℕ
last_count [] = 0
last_count (r ∷ []) = r.count
last_count (r ∷ s ∷ rs) = last_count (s ∷ rs)

abbrev pub span_sum : Group → ℕ
span_sum p = sum_by (λ r. r.count) (records_in p Bno)

-- the last record by count is the longest, wherever that index is edited
abbrev pub space_counter : List Kind → Group → Group → Counter → ℕ
space_counter left p q Freeblks = follow (p.counters Freeblks) (span_sum p) (span_sum q)
space_counter left p q Longest = if is_edited left p Cnt then last_count (records_in q Cnt) else p.counters Longest
space_counter left p q name = p.counters name

abbrev pub space_follows : List Kind → Group → Group → Group
space_follows left p q = record q { counters = space_counter left p q }

-- a run leaves both indexes of free space, or joins them
abbrev pub take_free : List Kind → Extent → Group → Group
take_free left e p = space_follows left p (space_edit take_span left e p)

abbrev pub give_free : List Kind → Extent → Group → Group
give_free left e p = space_follows left p (space_edit give_span left e p)

-- ---- owners

abbrev pub plain_run : ℕ → Extent → RmapRec
plain_run owner e = record { start = e.block; count = e.count; owner = owner; word = 0 }

abbrev pub give_owner : List Kind → ℕ → Extent → Group → Group
give_owner left owner e p = edit left Rmap (give_mapping (plain_run owner e)) p

abbrev pub take_owner : List Kind → ℕ → Extent → Group → Group
take_owner left owner e p = edit left Rmap (take_mapping (plain_run owner e)) p

-- ---- forks

abbrev pub changed_fork : (List Mapping → List Mapping) → ForkList → ForkList
changed_fork f list = record { mappings = f list.mappings; blocks = list.blocks }

abbrev pub change_data : ℕ → (List Mapping → List Mapping) → State → State
change_data ino f a = set_data ino (Ok (changed_fork f (fork_of a ino forks.Data))) a

abbrev pub data_of : State → ℕ → List Mapping
data_of a ino = (fork_of a ino forks.Data).mappings

abbrev pub mapping_of : State → ℕ → ℕ → ℕ → ℕ → Bool → Mapping
mapping_of a offset g b n flag = record { offset = offset; block = fs_block_of a.geometry g b; count = n; unwritten = flag }

abbrev pub extent_of : Piece → Extent
extent_of m = record { group = m.group; block = m.block; count = m.count }

abbrev pub intent : IntentKind → ℕ → ℕ → Extent → Intent
intent kind ino word e = record { kind = kind; ino = ino; word = word; group = e.group; block = e.block; count = e.count }

abbrev pub data_word : Bool → ℕ → ℕ
data_word flag offset = offset + (if flag then unwritten else 0)

-- What does a mapping make? The run leaves free space, the fork gains it unwritten, and its owner is still to be told.
unfoldable pub mapped : Piece → State → State
mapped m a =
    set_chain m.chain (intent RmapAdd m.ino (data_word true m.offset) (extent_of m) ∷ [])
    (change_data m.ino (add_mapping a.geometry.agblklog (mapping_of a m.offset m.group m.block m.count true))
    (in_group m.group (take_free [] (extent_of m)) a))

-- And an unmapping? The fork loses the piece; its owner is still to be taken, and then its count to fall.
unfoldable pub unmapped : Piece → State → State
unmapped m a =
    set_chain m.chain (intent RmapRemove m.ino (data_word (is_unwritten_at m.offset (data_of a m.ino)) m.offset) (extent_of m) ∷ intent RefLess 0 0 (extent_of m) ∷ [])
    (change_data m.ino (take_piece m.offset m.count) a)

-- And a conversion? An unwritten piece becomes written, with its owner's word to be changed; a written one stays.
unfoldable pub converted : Piece → State → State
converted m a =
    if is_unwritten_at m.offset (data_of a m.ino) then
    set_chain m.chain (intent RmapChange m.ino m.offset (extent_of m) ∷ [])
    (change_data m.ino (λ ms. add_mapping a.geometry.agblklog (mapping_of a m.offset m.group m.block m.count false) (take_piece m.offset m.count ms)) a)
    else a

abbrev pub shares_blocks : Option CoreState → Option CoreState
shares_blocks None = None
shares_blocks (Some (Broken fault)) = Some (Broken fault)
shares_blocks (Some (Whole inode)) = Some (Whole (record inode { reflink = true }))

abbrev pub mark_shared : ℕ → State → State
mark_shared ino a = set_core ino (shares_blocks (a.core ino)) a

-- And a sharing? The piece is mapped at the target too, and both cores say that they share blocks; an owner is still to
-- be told, and then a count to rise.
unfoldable pub shared : SharedPiece → State → State
shared m a =
    let e : Extent = record { group = m.group; block = m.block; count = m.count } in
    set_chain m.chain (intent RmapAdd m.to m.to_offset e ∷ intent RefMore 0 0 e ∷ [])
    (mark_shared m.from (mark_shared m.to
    (change_data m.to (add_mapping a.geometry.agblklog (mapping_of a m.to_offset m.group m.block m.count false)) a)))

-- ---- steps of a chain

-- what the next intent does to reverse mappings
abbrev pub do_mapping : IntentKind → Intent → List RmapRec → List RmapRec
do_mapping RmapAdd i recs = give_mapping (run_of i i.word) recs
do_mapping RmapRemove i recs = take_mapping (run_of i i.word) recs
do_mapping RmapChange i recs = give_mapping (run_of i i.word) (take_mapping (run_of i (word_taken i)) recs)
do_mapping RefMore i recs = recs
do_mapping RefLess i recs = recs
do_mapping Free i recs = recs

-- What does a finished step of reverse mappings make? The intent leaves its chain, and its owners change.
unfoldable pub rmap_done : List Kind → ℕ → Intent → List Intent → State → State
rmap_done left c i rest a = set_chain c rest (in_group i.group (edit left Rmap (do_mapping i.kind i)) a)

-- the rest of an intent behind its first n blocks, if there is one
abbrev pub behind : ℕ → Intent → List Intent
behind n i = only_if (nat_lt n i.count) (record i { block = i.block + n; count = i.count - n })

-- a stretch whose count falls, and that has no record, is free
abbrev pub to_free : Bool → Group → Extent → List Intent
to_free more p e = only_if (not more && not (sick_in p Refc) && (count_at (records_in p Refc) e.block == 1)) (intent Free 0 0 e)

abbrev pub new_count : Bool → List RefcRec → ℕ → ℕ
new_count true recs b = count_at recs b + 1
new_count false recs b = count_at recs b - 1

-- a stretch that has no record, and whose count falls, changes none
abbrev pub changes_count : Bool → List RefcRec → ℕ → Bool
changes_count more recs b = more || is_some (counter_of recs b)

abbrev pub change_count : List Kind → Bool → Extent → Group → Group
change_count left more e p =
    if changes_count more (records_in p Refc) e.block then edit left Refc (λ recs. set_count e.block e.count (new_count more recs e.block) recs) p else p

-- And one of reference counts? A stretch leaves the intent, and its count rises or falls by one.
unfoldable pub ref_done : List Kind → ℕ → Bool → Extent → Intent → List Intent → State → State
ref_done left c more e i rest a =
    set_chain c (to_free more (a.group e.group) e ++ behind e.count i ++ rest)
    (in_group e.group (change_count left more e) a)

-- And one that frees a run? It joins free space, unless its owner is there or can't be asked for.
unfoldable pub freed : List Kind → ℕ → Bool → Extent → List Intent → State → State
freed left c kept e rest a = set_chain c rest (if kept then a else in_group e.group (give_free left e) a)

-- ---- inodes

abbrev pub inode_sum : (InoRec → ℕ) → Group → ℕ
inode_sum f p = sum_by f (records_in p Ino)

abbrev pub inode_counter : Group → Group → Counter → ℕ
inode_counter p q Count = follow (p.counters Count) (inode_sum (λ r. r.count) p) (inode_sum (λ r. r.count) q)
inode_counter p q Freecount = follow (p.counters Freecount) (inode_sum (λ r. r.freecount) p) (inode_sum (λ r. r.freecount) q)
inode_counter p q name = q.counters name

abbrev pub inodes_follow : Group → Group → Group
inodes_follow p q = record q { counters = inode_counter p q }

-- an inode, by its number in the group, becomes free or allocated in both inode btrees
abbrev pub turn : Bool → ℕ → Group → Group
turn to_free i p = edit [] Fino (follow_inode i (turn_inode to_free i (records_in p Ino))) (edit [] Ino (turn_inode to_free i) p)

abbrev pub free_chunk : ℕ → InoRec
free_chunk b = record { startino = 8 * b; holemask = 0; count = 64; freecount = 64; free = 2 ^ 64 - 1 }

abbrev pub list_chunk : ℕ → Group → Group
list_chunk b p = edit [] Fino (put_chunk (free_chunk b)) (edit [] Ino (put_chunk (free_chunk b)) p)

abbrev pub core_with : ℕ → ℕ → CoreState
core_with mode uid = Whole (record { mode = mode; uid = uid; reflink = false })

abbrev pub chunk_extent : ℕ → ℕ → Extent
chunk_extent g b = record { group = g; block = b; count = 8 }

-- a new chunk: its blocks leave free space and belong to inodes, and its 64 free inodes are listed
abbrev pub make_chunk : ℕ → Option ℕ → State → State
make_chunk g None a = a
make_chunk g (Some b) a =
    set_cores g b 8 (Some (core_with 0 0))
    (in_group g (λ p. list_chunk b (give_owner [] (number_of Inodes) (chunk_extent g b) (take_free [] (chunk_extent g b) p))) a)

-- the mode of a new file: a regular one, rw-r--r--
abbrev pub file_mode : ℕ
file_mode = 0x81a4

-- What does taking an inode make? It is a file of that owner, allocated in both btrees; before that, a chunk may be made.
unfoldable pub taken : ℕ → ℕ → ℕ → ℕ → Option ℕ → State → State
taken g i ino uid chunk a =
    set_core ino (Some (core_with file_mode uid))
    (in_group g (λ q. inodes_follow (a.group g) (turn false i q)) (make_chunk g chunk a))

abbrev pub freed_core : Option CoreState → Option CoreState
freed_core None = None
freed_core (Some (Broken fault)) = Some (Broken fault)
freed_core (Some (Whole inode)) = Some (Whole (record inode { mode = 0 }))

-- And giving it back? It has mode 0, and is free in both.
unfoldable pub given : ℕ → ℕ → ℕ → State → State
given g i ino a = set_core ino (freed_core (a.core ino)) (in_group g (λ p. inodes_follow p (turn true i p)) a)

-- ---- the free list

abbrev pub is_in_extent : Extent → ℕ → Bool
is_in_extent e b = nat_le e.block b && nat_lt b (e.block + e.count)

-- What does filling the list make? The run moves from free space to its end, and belongs to the group.
unfoldable pub refilled : Extent → State → State
refilled e a = in_group e.group (λ p. give_owner [] (number_of Ag) e (take_free [] e (record p { free_list = p.free_list ++ numbers e.block e.count }))) a

-- And trimming it? The run moves from the list to free space.
unfoldable pub trimmed : Extent → State → State
trimmed e a = in_group e.group (λ p. give_free [] e (take_owner [] (number_of Ag) e (record p { free_list = filter (λ b. not (is_in_extent e b)) p.free_list }))) a

-- ---- trust

unfoldable pub marked : ℕ → Kind → State → State
marked g k a = in_group g (set_trust trusts.Sick k) a

abbrev pub judge : Verdict → ScrubUnit → Group → Group
judge verdicts.Good unit p = set_trusts trusts.Good (kinds_of unit) p
judge v unit p = p

unfoldable pub judged : ℕ → ScrubUnit → Verdict → State → State
judged g unit verdict a = in_group g (judge verdict unit) a

-- ---- rebuilding

abbrev pub block_extent : ℕ → ℕ → Extent
block_extent g b = record { group = g; block = b; count = 1 }

-- the block leaves the front of the list, or free space; where free space itself is rebuilt, it stays there
abbrev pub leave : List Kind → ScrubUnit → Extent → Bool → Group → Group
leave left unit e false p = record p { free_list = drop 1 p.free_list }
leave left units.Free e true p = p
leave left units.Inode e true p = take_free left e p
leave left units.Rmap e true p = take_free left e p
leave left units.Refc e true p = take_free left e p

-- and has the unit's owner, where reverse mappings aren't rebuilt: a block of the list was the group's
abbrev pub own_new : List Kind → ScrubUnit → Extent → Bool → Group → Group
own_new left units.Rmap e spare p = p
own_new left units.Free e false p = p
own_new left units.Free e true p = give_owner left (unit_owner units.Free) e p
own_new left units.Inode e true p = give_owner left (unit_owner units.Inode) e p
own_new left units.Refc e true p = give_owner left (unit_owner units.Refc) e p
own_new left units.Inode e false p = give_owner left (unit_owner units.Inode) e (take_owner left (number_of Ag) e p)
own_new left units.Refc e false p = give_owner left (unit_owner units.Refc) e (take_owner left (number_of Ag) e p)

-- What does reserving a block make? It leaves the list or free space, joins the reserve, and holds no core any more.
unfoldable pub reserved : List Kind → ℕ → ScrubUnit → ℕ → Bool → State → State
reserved left g unit b spare a =
    let e = block_extent g b in
    set_cores g b 1 None
    (in_group g (λ p. own_new left unit e spare (leave left unit e spare (record p { reserve = p.reserve ++ owned_by (unit_owner unit) b ∷ [] }))) a)

-- And releasing them? The reserve is limbo.
unfoldable pub released : ℕ → State → State
released g a = in_group g (λ p. record p { reserve = []; limbo = join_limbo p.reserve p.limbo }) a

-- reverse mappings give a block of the run to another owner
abbrev pub is_anothers : ℕ → Extent → List RmapRec → Bool
is_anothers owner e recs = is_guarded (filter (λ r. not (r.owner == owner)) recs) e.block e.count

abbrev pub is_of_run : ℕ → Extent → Owned → Bool
is_of_run owner e o = (o.owner == owner) && is_in_extent e o.block

abbrev pub leave_limbo : ℕ → Extent → Group → Group
leave_limbo owner e p = record p { limbo = filter (λ o. not (is_of_run owner e o)) p.limbo }

-- the owner with which its first block is in limbo; of several the lowest
abbrev pub owner_of_run : Group → Extent → ℕ
owner_of_run p e = option_map_or (λ o. o.owner) (find (λ o. o.block == e.block) p.limbo) 0

abbrev pub joins_no_space : ℕ → Extent → Group → Bool
joins_no_space owner e p = sick_in p Bno || sick_in p Cnt || is_anothers owner e (records_in p Rmap)

abbrev pub reap_in : List Kind → ℕ → Extent → Group → Group
reap_in left owner e p =
    if joins_no_space owner e p then take_owner left owner e (leave_limbo owner e p)
    else give_free left e (take_owner left owner e (leave_limbo owner e p))

-- And reaping a run? It leaves limbo, its owner loses it, and it joins free space, unless an index of that is sick or
-- another owner has it.
unfoldable pub reaped : List Kind → ℕ → Extent → State → State
reaped left owner e a = in_group e.group (reap_in left owner e) a
