-- What each row must give: of each unit of the group its faults, or the evidence by which it is given up.
use Rattle.std.specs.Prelude.{ℕ, Bool, true, false, List, [], ◌∷◌, ◌++◌, length, map, Some, None, Result, Ok, Err, ◌≡◌, ◌^◌, ◌-◌, ◌==◌, ◌&&◌, ◌||◌, if◌then◌else◌, ⊤}
use Rattle.dinode_core.specs.declared.inode.CoreFault.TheVariants.{Checksum as CoreSum}
use Rattle.dinode_core.specs.declared.mapping.Fork.{Fork}
use Rattle.dinode_core.specs.declared.mapping.ForkFault.{ForkFault}
use Rattle.dinode_core.specs.declared.mapping.ForkFault.TheVariants.{Range as ForkRange}
use Rattle.fs_model.specs.declared.claim.Claim.TheVariants.{Heads, List as FreeList, Tree, Chunk, Data}
use Rattle.fs_model.specs.declared.claim.Evidence.{Evidence}
use Rattle.fs_model.specs.declared.claim.Evidence.TheVariants.{BadFork, BadChunk, BadTree, Overlap, Later}
use Rattle.fs_model.specs.declared.entry.Entry.{Entry}
use Rattle.fs_model.specs.declared.entry.Entry.TheVariants as entries
use Rattle.fs_model.specs.declared.fault.Cause.TheVariants.{Missing as CauseMissing}
use Rattle.fs_model.specs.declared.fault.Counter.{Counter as HeadCounter}
use Rattle.fs_model.specs.declared.fault.Counter.TheVariants.{Count, Freecount, Longest}
use Rattle.fs_model.specs.declared.fault.Fault.{Fault}
use Rattle.fs_model.specs.declared.fault.Fault.TheVariants.{Block, Missing, Extra, Counter}
use Rattle.fs_model.specs.declared.«record».AnyRec.TheVariants as recs
use Rattle.fs_model.specs.declared.unit.Unit.{Unit as ScrubUnit}
use Rattle.fs_model.specs.declared.unit.Unit.TheVariants as units
use Rattle.fs_model.specs.declared.verdict.Reason.TheVariants.{Contradiction, TurnLimit}
use Rattle.fs_model.specs.declared.verdict.Verdict.{Verdict}
use Rattle.fs_model.specs.declared.verdict.Verdict.TheVariants.{Good, Faulty, Rebuilt, Skipped, GaveUp}
use Rattle.ino_recs.specs.declared.chunk.InoRec.{InoRec}
use Rattle.rmap_recs.specs.declared.records.RmapRec.{RmapRec}
use Rattle.sblock.specs.declared.block.BlockFault.TheVariants.{Checksum, Level, Sibling, Range, Later as LaterForm}
use Rattle.sblock.specs.declared.kind.Kind.TheVariants.{Bno, Rmap, Refc, Ino, Fino}
use Rattle.fs_state.specs.State.{State, Group, Index, Broken, ForkList}
use Rattle.fs_state.specs.Contradiction.{evidence}
use Rattle.fs_state.specs.Faults.{faults}
use Rattle.fs_state.specs.Lists.{numbers}
use Rattle.fs_state.specs.Session.{Session, unit_order}
use Rattle.fs_state.specs.declared.plan.Plan.{Plan}
use Rattle.fs_state.specs.declared.plan.Plan.TheVariants.{Check, Repair, Rebuild}
use Rattle.test_states.specs.Images.{Trees, image, image_a, group_with, fresh_with, file_with, fork_with, forks_of, of_fork, no_forks, trees_a, trees_with_file, tree_of, bad, counters_with, span, shared, mapped, chunk, mapping, fs, log, ag, inobt, inodes, refc, mask, free_a, mappings_a, cores_to}

-- a unit with these faults, and nothing that contradicts its derivation
abbrev pub Judged : State → ℕ → ScrubUnit → List Fault → Type 0
Judged a g unit fs = (evidence a g unit ≡ None) × (faults a g unit ≡ fs)

-- a unit that is given up
abbrev pub GivenUp : State → ℕ → ScrubUnit → Evidence → Type 0
GivenUp a g unit e = evidence a g unit ≡ Some e

-- ---- parts of images

-- the reverse mappings of a fresh image but for those of the chunk
abbrev pub six_mappings : List RmapRec
six_mappings =
    mapped 0 1 fs 0 ∷ mapped 1 2 ag 0 ∷ mapped 3 2 inobt 0 ∷ mapped 5 1 ag 0 ∷ mapped 6 1 refc 0 ∷ mapped 7 12 ag 0 ∷ []

-- the free list has a block of the chunk and the root of a btree, and a core of the chunk doesn't verify
abbrev pub first_image : Index InoRec → Index RmapRec → State
first_image ino rmap =
    image (group_with (24 ∷ 1 ∷ []) (counters_with 61 229 224) (record trees_a { ino = ino; rmap = rmap }))
    (λ i. if i == 193 then Some (Broken CoreSum) else cores_to 194 i) no_forks

-- the inode btrees list three files more
abbrev pub three_files : Trees → Trees
three_files t = record t { ino = tree_of (3 ∷ []) (chunk 192 58 (2 ^ 64 - 64) ∷ []); fino = tree_of (4 ∷ []) (chunk 192 58 (2 ^ 64 - 64) ∷ []) }

-- files 195 and 196 map block 50, and 197 has it in its attribute fork, where the first says so
abbrev pub on_fifty : Bool → ℕ → Fork → Result ForkList ForkFault
on_fifty third i f =
    if (i == 195) || (i == 196) then of_fork (fork_with (mapping 0 50 1 ∷ [])) (fork_with []) f
    else if third && (i == 197) then of_fork (fork_with []) (fork_with (mapping 0 50 1 ∷ [])) f
    else fork_with []

-- the groups and files of the image of two groups
abbrev pub first_group : Group
first_group = group_with (numbers 7 12) (counters_with 59 32 13) (record {
  bno = tree_of (1 ∷ []) (span 19 5 ∷ span 32 1 ∷ span 36 4 ∷ span 41 9 ∷ span 51 13 ∷ []);
  cnt = tree_of (2 ∷ []) (span 32 1 ∷ span 36 4 ∷ span 19 5 ∷ span 41 9 ∷ span 51 13 ∷ []);
  ino = tree_of (3 ∷ []) (chunk 192 59 (2 ^ 64 - 32) ∷ []);
  fino = tree_of (4 ∷ []) (chunk 192 59 (2 ^ 64 - 32) ∷ []);
  rmap = tree_of (5 ∷ []) (six_mappings ++ mapped 24 8 inodes 0 ∷ mapped 33 1 195 (2 ^ 62) ∷ mapped 34 2 195 0 ∷ mapped 34 2 196 0 ∷ mapped 40 1 195 2 ∷ mapped 50 1 196 (2 ^ 63) ∷ []);
  refcounts = tree_of (6 ∷ []) (shared 34 2 2 ∷ []);
})

abbrev pub no_chunks : HeadCounter → ℕ
no_chunks Count = 0
no_chunks Freecount = 0
no_chunks name = counters_with 0 34 17 name

abbrev pub second_group : Group
second_group = group_with (numbers 7 12) no_chunks (record {
  bno = tree_of (1 ∷ []) (span 19 1 ∷ span 23 17 ∷ span 48 16 ∷ []);
  cnt = tree_of (2 ∷ []) (span 19 1 ∷ span 48 16 ∷ span 23 17 ∷ []);
  ino = tree_of (3 ∷ []) [];
  fino = tree_of (4 ∷ []) [];
  rmap = tree_of (5 ∷ []) (six_mappings ++ mapped 20 3 195 3 ∷ mapped 40 8 log 0 ∷ []);
  refcounts = tree_of (6 ∷ []) [];
})

-- block 20 of group 1 has the file system block number 84
abbrev pub two_files : ℕ → Fork → Result ForkList ForkFault
two_files i f =
    if i == 195 then of_fork (Ok (record { mappings = mapping 0 34 2 ∷ mapping 2 40 1 ∷ mapping 3 84 3 ∷ []; blocks = record { block = 33; before = 0 } ∷ [] })) (fork_with []) f
    else if i == 196 then of_fork (fork_with (mapping 0 34 2 ∷ [])) (fork_with (mapping 0 50 1 ∷ [])) f
    else fork_with []

-- ---- a fresh image is good

abbrev pub FreshImage : Type 0
FreshImage =
    Judged image_a 0 units.Inode []
    × Judged image_a 0 units.Rmap []
    × Judged image_a 0 units.Free []
    × Judged image_a 0 units.Refc []

-- ---- a free space record one block too short: the derived one is missing, and the short one extra

abbrev pub short_free : State
short_free = fresh_with (counters_with 61 229 224) (record trees_a { bno = tree_of (1 ∷ []) (span 19 5 ∷ span 32 223 ∷ []) })

abbrev pub ShortFreeSpace : Type 0
ShortFreeSpace =
    Judged short_free 0 units.Inode []
    × Judged short_free 0 units.Rmap []
    × Judged short_free 0 units.Free (Missing (recs.Bno (span 32 224)) ∷ Extra (recs.Bno (span 32 223)) ∷ [])
    × Judged short_free 0 units.Refc []

-- ---- a counter that is one too small

abbrev pub short_longest : State
short_longest = fresh_with (counters_with 61 229 223) trees_a

abbrev pub WrongLongest : Type 0
WrongLongest =
    Judged short_longest 0 units.Inode []
    × Judged short_longest 0 units.Rmap []
    × Judged short_longest 0 units.Free (Counter Longest 223 224 ∷ [])
    × Judged short_longest 0 units.Refc []

-- ---- a free space btree with a wrong checksum: its root is still claimed, so nothing else is wrong

abbrev pub unread_free : State
unread_free = fresh_with (counters_with 61 229 224) (record trees_a { bno = bad 1 Checksum (1 ∷ []) })

abbrev pub UnreadFreeSpace : Type 0
UnreadFreeSpace =
    Judged unread_free 0 units.Inode []
    × Judged unread_free 0 units.Rmap []
    × Judged unread_free 0 units.Free (Block Bno 1 Checksum ∷ [])
    × Judged unread_free 0 units.Refc []

-- ---- free space after its rebuild in blocks 7 and 8, and the old roots reaped: blocks 1 and 2 are free

abbrev pub rebuilt_free : State
rebuilt_free = image (group_with (numbers 9 10) (counters_with 61 231 224) (record trees_a {
  bno = tree_of (7 ∷ []) (span 1 2 ∷ free_a);
  cnt = tree_of (8 ∷ []) (span 1 2 ∷ free_a);
  rmap = tree_of (5 ∷ []) (mapped 0 1 fs 0 ∷ mapped 3 2 inobt 0 ∷ mapped 5 1 ag 0 ∷ mapped 6 1 refc 0 ∷ mapped 7 12 ag 0 ∷ mapped 24 8 inodes 0 ∷ []);
})) (cores_to 194) no_forks

abbrev pub RebuiltFreeSpace : Type 0
RebuiltFreeSpace =
    Judged rebuilt_free 0 units.Inode []
    × Judged rebuilt_free 0 units.Rmap []
    × Judged rebuilt_free 0 units.Free []
    × Judged rebuilt_free 0 units.Refc []

-- ---- a lost reverse mapping: the chunk is still listed by the inode btree

abbrev pub short_rmap : State
short_rmap = fresh_with (counters_with 61 229 224) (record trees_a { rmap = tree_of (5 ∷ []) six_mappings })

abbrev pub LostMapping : Type 0
LostMapping =
    Judged short_rmap 0 units.Inode []
    × Judged short_rmap 0 units.Rmap (Missing (recs.Rmap (mapped 24 8 inodes 0)) ∷ [])

-- ---- reverse mappings after their rebuild in block 7: the old root, block 5, is in limbo, and keeps its owner

abbrev pub rebuilt_rmap : State
rebuilt_rmap = image (record (group_with (numbers 8 11) (counters_with 61 229 224) (record trees_a { rmap = tree_of (7 ∷ []) mappings_a })) { limbo = record { block = 5; owner = ag } ∷ [] })
    (cores_to 194) no_forks

abbrev pub RebuiltMappings : Type 0
RebuiltMappings =
    Judged rebuilt_rmap 0 units.Inode []
    × Judged rebuilt_rmap 0 units.Rmap []
    × Judged rebuilt_rmap 0 units.Free []
    × Judged rebuilt_rmap 0 units.Refc []

-- ---- a lost record of the inode btree: reverse mappings still list the chunk

abbrev pub short_ino : State
short_ino = fresh_with (counters_with 61 229 224) (record trees_a { ino = tree_of (3 ∷ []) [] })

abbrev pub LostInodes : Type 0
LostInodes =
    Judged short_ino 0 units.Inode (Missing (recs.Ino (chunk 192 61 mask)) ∷ [])
    × Judged short_ino 0 units.Rmap []
    × Judged short_ino 0 units.Free []
    × Judged short_ino 0 units.Refc []

-- ---- both inode btrees after their rebuild in blocks 7 and 8, and what the reverse mappings should say then

abbrev pub rebuilt_ino : State
rebuilt_ino = image (record (group_with (numbers 9 10) (counters_with 61 229 224) (record trees_a {
  ino = tree_of (7 ∷ []) (chunk 192 61 mask ∷ []);
  fino = tree_of (8 ∷ []) (chunk 192 61 mask ∷ []);
  rmap = tree_of (5 ∷ []) (mapped 0 1 fs 0 ∷ mapped 1 2 ag 0 ∷ mapped 3 2 inobt 0 ∷ mapped 5 1 ag 0 ∷ mapped 6 1 refc 0 ∷ mapped 7 2 inobt 0 ∷ mapped 9 10 ag 0 ∷ mapped 24 8 inodes 0 ∷ []);
})) { limbo = record { block = 3; owner = inobt } ∷ record { block = 4; owner = inobt } ∷ [] }) (cores_to 194) no_forks

abbrev pub RebuiltInodes : Type 0
RebuiltInodes =
    Judged rebuilt_ino 0 units.Inode []
    × Judged rebuilt_ino 0 units.Rmap []
    × Judged rebuilt_ino 0 units.Free []
    × Judged rebuilt_ino 0 units.Refc []

-- ---- file 195 maps block 40 at offsets 0 and 5: two reverse mappings and a count of 2

abbrev pub shared_forty : State
shared_forty = file_with (counters_with 60 228 215) (record trees_a {
  bno = tree_of (1 ∷ []) (span 19 5 ∷ span 32 8 ∷ span 41 215 ∷ []);
  cnt = tree_of (2 ∷ []) (span 19 5 ∷ span 32 8 ∷ span 41 215 ∷ []);
  rmap = tree_of (5 ∷ []) (six_mappings ++ mapped 24 8 inodes 0 ∷ mapped 40 1 195 0 ∷ mapped 40 1 195 5 ∷ []);
  refcounts = tree_of (6 ∷ []) (shared 40 1 2 ∷ []);
}) (fork_with (mapping 0 40 1 ∷ mapping 5 40 1 ∷ []))

abbrev pub unshared_forty : State
unshared_forty = file_with (counters_with 60 228 215) (record trees_a {
  bno = tree_of (1 ∷ []) (span 19 5 ∷ span 32 8 ∷ span 41 215 ∷ []);
  cnt = tree_of (2 ∷ []) (span 19 5 ∷ span 32 8 ∷ span 41 215 ∷ []);
  rmap = tree_of (5 ∷ []) (six_mappings ++ mapped 24 8 inodes 0 ∷ mapped 40 1 195 0 ∷ []);
}) (fork_with (mapping 0 40 1 ∷ []))

abbrev pub SharedBlock : Type 0
SharedBlock =
    Judged shared_forty 0 units.Inode []
    × Judged shared_forty 0 units.Rmap []
    × Judged shared_forty 0 units.Free []
    × Judged shared_forty 0 units.Refc []
    × Judged unshared_forty 0 units.Inode []
    × Judged unshared_forty 0 units.Rmap []
    × Judged unshared_forty 0 units.Free []
    × Judged unshared_forty 0 units.Refc []

-- ---- no block is free, and the free space btree by start can't be read

abbrev pub full : State
full = image (group_with [] (counters_with 60 0 0) (trees_with_file (record trees_a {
  bno = bad 1 Checksum (1 ∷ []);
  cnt = tree_of (2 ∷ []) [];
  rmap = tree_of (5 ∷ []) (mapped 0 1 fs 0 ∷ mapped 1 2 ag 0 ∷ mapped 3 2 inobt 0 ∷ mapped 5 1 ag 0 ∷ mapped 6 1 refc 0 ∷ mapped 7 17 195 0 ∷ mapped 24 8 inodes 0 ∷ mapped 32 224 195 17 ∷ []);
}))) (cores_to 195) (forks_of 195 (fork_with (mapping 0 7 17 ∷ mapping 17 32 224 ∷ [])) (fork_with []))

abbrev pub FullImage : Type 0
FullImage =
    Judged full 0 units.Inode []
    × Judged full 0 units.Rmap []
    × Judged full 0 units.Free (Block Bno 1 Checksum ∷ [])
    × Judged full 0 units.Refc []

-- ---- file 195 maps the block of the heads

abbrev pub on_heads : State
on_heads = file_with (counters_with 60 229 224) trees_a (fork_with (mapping 0 0 1 ∷ []))

abbrev pub FileOnHeads : Type 0
FileOnHeads =
    Judged on_heads 0 units.Inode []
    × GivenUp on_heads 0 units.Rmap (Overlap 0 Heads (Data 195))
    × Session (unit_order 1) Repair 1 1 6 (entries.Verdict 0 units.Inode Good
    ∷ entries.Verdict 0 units.Rmap (GaveUp (Contradiction (Overlap 0 Heads (Data 195))))
    ∷ entries.Verdict 0 units.Free (Skipped 0 units.Rmap)
    ∷ entries.Verdict 0 units.Refc (Skipped 0 units.Rmap) ∷ [])

-- ---- a crash after a fork lost a mapping: its reverse mapping is extra

abbrev pub cut_short : State
cut_short = file_with (counters_with 60 225 224) (record trees_a {
  bno = tree_of (1 ∷ []) (span 23 1 ∷ span 32 224 ∷ []);
  cnt = tree_of (2 ∷ []) (span 23 1 ∷ span 32 224 ∷ []);
  rmap = tree_of (5 ∷ []) (six_mappings ++ mapped 19 4 195 0 ∷ mapped 24 8 inodes 0 ∷ []);
}) (fork_with [])

abbrev pub CutUnmapping : Type 0
CutUnmapping =
    Judged cut_short 0 units.Inode []
    × Judged cut_short 0 units.Rmap (Extra (recs.Rmap (mapped 19 4 195 0)) ∷ [])
    × Judged cut_short 0 units.Free []
    × Judged cut_short 0 units.Refc []

-- ---- byte 600 of block 24 changed: the core of inode 193 doesn't verify, and both trees list its chunk

abbrev pub broken_core : State
broken_core = image (group_with (numbers 7 12) (counters_with 61 229 224) trees_a) (λ ino. if ino == 193 then Some (Broken CoreSum) else cores_to 194 ino) no_forks

abbrev pub BadCore : Type 0
BadCore =
    GivenUp broken_core 0 units.Inode (BadChunk 24 CoreSum)
    × Session (unit_order 1) Check 1 1 6 (entries.Verdict 0 units.Inode (GaveUp (Contradiction (BadChunk 24 CoreSum)))
    ∷ entries.Verdict 0 units.Rmap (Skipped 0 units.Inode)
    ∷ entries.Verdict 0 units.Free (Skipped 0 units.Rmap)
    ∷ entries.Verdict 0 units.Refc (Skipped 0 units.Rmap) ∷ [])

-- ---- a free space root on level 1 whose one pointer leads to itself

abbrev pub looped : State
looped = fresh_with (counters_with 61 229 224) (record trees_a { bno = bad 1 Level (1 ∷ []) })

abbrev pub WrongLevel : Type 0
WrongLevel =
    Judged looped 0 units.Inode []
    × Judged looped 0 units.Rmap []
    × Judged looped 0 units.Free (Block Bno 1 Level ∷ [])
    × Judged looped 0 units.Refc []

-- ---- the free space root is said to be block 300: nothing claims block 1

abbrev pub outside : State
outside = fresh_with (counters_with 61 229 224) (record trees_a { bno = bad 300 Range [] })

abbrev pub RootOutside : Type 0
RootOutside =
    Judged outside 0 units.Inode []
    × Judged outside 0 units.Rmap (Extra (recs.Rmap (mapped 1 2 ag 0)) ∷ Missing (recs.Rmap (mapped 2 1 ag 0)) ∷ [])
    × Session (unit_order 1) Check 1 1 1 (entries.Verdict 0 units.Inode Good
    ∷ entries.Fault 0 units.Rmap (Extra (recs.Rmap (mapped 1 2 ag 0)))
    ∷ entries.Fault 0 units.Rmap (Missing (recs.Rmap (mapped 2 1 ag 0)))
    ∷ entries.Verdict 0 units.Rmap (Faulty 2)
    ∷ entries.Verdict 0 units.Free (Skipped 0 units.Rmap)
    ∷ entries.Verdict 0 units.Refc (Skipped 0 units.Rmap) ∷ [])

-- ---- the reference count btree is said to have 10 levels

abbrev pub ten_levels : State
ten_levels = fresh_with (counters_with 61 229 224) (record trees_a { refcounts = bad 6 Level (6 ∷ []) })

abbrev pub TooManyLevels : Type 0
TooManyLevels =
    Judged ten_levels 0 units.Inode []
    × Judged ten_levels 0 units.Rmap []
    × Judged ten_levels 0 units.Free []
    × Judged ten_levels 0 units.Refc (Block Refc 6 Level ∷ [])

-- ---- the free space root names a right sibling

abbrev pub with_sibling : State
with_sibling = fresh_with (counters_with 61 229 224) (record trees_a { bno = bad 1 Sibling (1 ∷ []) })

abbrev pub WrongSibling : Type 0
WrongSibling =
    Judged with_sibling 0 units.Inode []
    × Judged with_sibling 0 units.Rmap []
    × Judged with_sibling 0 units.Free (Block Bno 1 Sibling ∷ [])
    × Judged with_sibling 0 units.Refc []

-- ---- a reverse mapping with an owner that there is not

abbrev pub no_owner : State
no_owner = fresh_with (counters_with 61 229 224) (record trees_a { rmap = bad 5 Range (5 ∷ []) })

abbrev pub UnreadMappings : Type 0
UnreadMappings =
    Judged no_owner 0 units.Inode []
    × Judged no_owner 0 units.Rmap (Block Rmap 5 Range ∷ [])
    × Session (unit_order 1) Check 1 1 1 (entries.Verdict 0 units.Inode Good
    ∷ entries.Fault 0 units.Rmap (Block Rmap 5 Range)
    ∷ entries.Verdict 0 units.Rmap (Faulty 1)
    ∷ entries.Verdict 0 units.Free (Skipped 0 units.Rmap)
    ∷ entries.Verdict 0 units.Refc (Skipped 0 units.Rmap) ∷ [])

-- ---- file 195 maps ten blocks from block 250 of 256 on

abbrev pub fork_outside : State
fork_outside = file_with (counters_with 60 229 224) trees_a (Err ForkRange)

abbrev pub UnreadFork : Type 0
UnreadFork =
    Judged fork_outside 0 units.Inode []
    × GivenUp fork_outside 0 units.Rmap (BadFork 195 ForkRange)
    × Session (unit_order 1) Check 1 1 6 (entries.Verdict 0 units.Inode Good
    ∷ entries.Verdict 0 units.Rmap (GaveUp (Contradiction (BadFork 195 ForkRange)))
    ∷ entries.Verdict 0 units.Free (Skipped 0 units.Rmap)
    ∷ entries.Verdict 0 units.Refc (Skipped 0 units.Rmap) ∷ [])

-- ---- file 195 maps blocks 32 to 35 at offset 0 and 19 to 22 at offset 8, and shares nothing

abbrev pub moved : State
moved = file_with (counters_with 60 221 220) (record trees_a {
  bno = tree_of (1 ∷ []) (span 23 1 ∷ span 36 220 ∷ []);
  cnt = tree_of (2 ∷ []) (span 23 1 ∷ span 36 220 ∷ []);
  rmap = tree_of (5 ∷ []) (six_mappings ++ mapped 19 4 195 8 ∷ mapped 24 8 inodes 0 ∷ mapped 32 4 195 0 ∷ []);
}) (fork_with (mapping 0 32 4 ∷ mapping 8 19 4 ∷ []))

abbrev pub MovedPiece : Type 0
MovedPiece =
    Judged moved 0 units.Inode []
    × Judged moved 0 units.Rmap []
    × Judged moved 0 units.Free []
    × Judged moved 0 units.Refc []

-- ---- an inode record with holes isn't supported yet: the unit of its tree is given up

abbrev pub with_holes : State
with_holes = fresh_with (counters_with 61 229 224) (record trees_a { ino = bad 3 LaterForm (3 ∷ []) })

abbrev pub LaterForms : Type 0
LaterForms =
    GivenUp with_holes 0 units.Inode (Later Ino 3)
    × Judged with_holes 0 units.Rmap []

-- ---- which evidence comes first: the first three have an overlap too, and the first what the second shows

abbrev pub four_reasons : State
four_reasons = first_image (bad 3 LaterForm (3 ∷ [])) (bad 5 Checksum (5 ∷ []))

abbrev pub three_reasons : State
three_reasons = first_image (bad 3 Checksum (3 ∷ [])) (bad 5 Checksum (5 ∷ []))

abbrev pub two_reasons : State
two_reasons = first_image (tree_of (3 ∷ []) (chunk 192 61 mask ∷ [])) (tree_of (5 ∷ []) mappings_a)

abbrev pub one_reason : State
one_reason = image (group_with (24 ∷ []) (counters_with 61 229 224) trees_a) (cores_to 194) no_forks

abbrev pub FirstEvidence : Type 0
FirstEvidence =
    GivenUp four_reasons 0 units.Inode (Later Ino 3)
    × GivenUp three_reasons 0 units.Inode (BadTree Rmap 5)
    × GivenUp two_reasons 0 units.Inode (BadChunk 24 CoreSum)
    × GivenUp one_reason 0 units.Inode (Overlap 24 FreeList Chunk)

-- ---- two files share block 50, which a third has in its attribute fork: the first two claims are shown, though these two could stand together; without the third nothing overlaps

abbrev pub thrice : State
thrice = image (group_with (numbers 7 12) (counters_with 58 229 224) (three_files trees_a)) (cores_to 197) (on_fifty true)

abbrev pub twice : State
twice = image (group_with (numbers 7 12) (counters_with 58 229 224) (three_files trees_a)) (cores_to 197) (on_fifty false)

abbrev pub ThreeClaims : Type 0
ThreeClaims =
    Judged thrice 0 units.Inode []
    × GivenUp thrice 0 units.Rmap (Overlap 50 (Data 195) (Data 196))
    × (evidence twice 0 units.Rmap ≡ None)

-- ---- two groups: file 195 has a btree at block 33 of group 0 and maps blocks of both groups, file 196 shares two of them and has an attribute fork, and group 1 has the log

abbrev pub two : State
two = record { geometry = record { agblocks = 64; agcount = 2; dblocks = 128; agblklog = 6; uuid = []; log = Some (record { group = 1; start = 40; count = 8 }); kept = []; inobtcount = true }; group = λ g. if g == 0 then first_group else second_group; core = cores_to 196; fork = two_files; chains = λ c. [] }

abbrev pub TwoGroups : Type 0
TwoGroups =
    Judged two 0 units.Inode []
    × Judged two 0 units.Rmap []
    × Judged two 0 units.Free []
    × Judged two 0 units.Refc []
    × Judged two 1 units.Inode []
    × Judged two 1 units.Rmap []
    × Judged two 1 units.Free []
    × Judged two 1 units.Refc []
    × Session (unit_order 2) Check 1 2 0 (entries.Verdict 0 units.Inode Good
    ∷ entries.Verdict 1 units.Inode Good
    ∷ entries.Verdict 0 units.Rmap Good
    ∷ entries.Verdict 1 units.Rmap Good
    ∷ entries.Verdict 0 units.Free Good
    ∷ entries.Verdict 0 units.Refc Good
    ∷ entries.Verdict 1 units.Free Good
    ∷ entries.Verdict 1 units.Refc Good ∷ [])

-- ---- what is refused: other entries of a unit than its faults with their count, another evidence, another session

abbrev pub verdict_on : List Fault → Verdict
verdict_on [] = Good
verdict_on (f ∷ fs) = Faulty (length (f ∷ fs))

-- the entries of a unit with these faults, where nothing contradicts its derivation
abbrev pub entries_on : ScrubUnit → List Fault → List Entry
entries_on unit fs = map (entries.Fault 0 unit) fs ++ entries.Verdict 0 unit (verdict_on fs) ∷ []

abbrev pub NoneAreOf : State → ScrubUnit → List (List Entry) → Type 0
NoneAreOf a unit [] = ⊤
NoneAreOf a unit (es ∷ ess) = (entries_on unit (faults a 0 unit) ≡ es → ⊥) × NoneAreOf a unit ess

abbrev pub missing_free : Entry
missing_free = entries.Fault 0 units.Free (Missing (recs.Bno (span 32 224)))

abbrev pub extra_free : Entry
extra_free = entries.Fault 0 units.Free (Extra (recs.Bno (span 32 223)))

-- of the image whose free space record is one block too short: good, counts that are wrong, one fault alone, and both
-- in another order
abbrev pub not_of_short_free : List (List Entry)
not_of_short_free =
    (entries.Verdict 0 units.Free Good ∷ [])
    ∷ (missing_free ∷ extra_free ∷ entries.Verdict 0 units.Free (Faulty 1) ∷ [])
    ∷ (missing_free ∷ extra_free ∷ entries.Verdict 0 units.Free (Faulty 3) ∷ [])
    ∷ (missing_free ∷ entries.Verdict 0 units.Free (Faulty 1) ∷ [])
    ∷ (extra_free ∷ missing_free ∷ entries.Verdict 0 units.Free (Faulty 2) ∷ [])
    ∷ []

-- of the image whose counter is too small: the two numbers swapped, another counter, good
abbrev pub not_of_short_longest : List (List Entry)
not_of_short_longest =
    (entries.Fault 0 units.Free (Counter Longest 224 223) ∷ entries.Verdict 0 units.Free (Faulty 1) ∷ [])
    ∷ (entries.Fault 0 units.Free (Counter Freecount 223 224) ∷ entries.Verdict 0 units.Free (Faulty 1) ∷ [])
    ∷ (entries.Verdict 0 units.Free Good ∷ [])
    ∷ []

abbrev pub RefusedVerdicts : Type 0
RefusedVerdicts =
    NoneAreOf short_free units.Free not_of_short_free
    × NoneAreOf short_longest units.Free not_of_short_longest
    × (evidence two_reasons 0 units.Inode ≡ Some (Overlap 1 FreeList (Tree Bno)) → ⊥)
    × (evidence thrice 0 units.Rmap ≡ None → ⊥)

-- a plan and a status with the verdicts of one group
abbrev pub Judging : Type 0
Judging = Plan × ℕ × List Entry

abbrev pub AreNone : List Judging → Type 0
AreNone [] = ⊤
AreNone (row ∷ rows) = (Session (unit_order 1) row.0 1 1 row.1 row.2 → ⊥) × AreNone rows

abbrev pub on : ScrubUnit → Verdict → Entry
on unit verdict = entries.Verdict 0 unit verdict

abbrev pub refused_sessions : List Judging
refused_sessions =
    -- units in another order
    (Check, 0, on units.Rmap Good ∷ on units.Inode Good ∷ on units.Free Good ∷ on units.Refc Good ∷ [])
    -- a unit left out
    ∷ (Check, 0, on units.Inode Good ∷ on units.Rmap Good ∷ on units.Free Good ∷ [])
    -- a unit judged twice
    ∷ (Check, 0, on units.Inode Good ∷ on units.Rmap Good ∷ on units.Free Good ∷ on units.Refc Good ∷ on units.Refc Good ∷ [])
    -- a verdict on an image that is refused
    ∷ (Check, 4, on units.Inode Good ∷ [])
    -- faults that stay under a repair, and a unit that stays under a rebuild of all
    ∷ (Repair, 1, on units.Inode (Faulty 1) ∷ on units.Rmap Good ∷ on units.Free Good ∷ on units.Refc Good ∷ [])
    ∷ (Rebuild, 0, on units.Inode Good ∷ on units.Rmap Good ∷ on units.Free Good ∷ on units.Refc Good ∷ [])
    -- skipped for a unit that stands, and for another than the first that fell
    ∷ (Check, 1, on units.Inode Good ∷ on units.Rmap (Skipped 0 units.Inode) ∷ on units.Free Good ∷ on units.Refc Good ∷ [])
    ∷ (Check, 1, on units.Inode (Faulty 1) ∷ on units.Rmap (Skipped 0 units.Free) ∷ on units.Free Good ∷ on units.Refc Good ∷ [])
    -- skipped for a unit that was rebuilt
    ∷ (Repair, 6, on units.Inode Rebuilt ∷ on units.Rmap (Skipped 0 units.Inode) ∷ on units.Free Good ∷ on units.Refc Good ∷ [])
    -- cut short, and out of order
    ∷ (Check, 5, on units.Rmap Good ∷ [])
    -- another number of turns
    ∷ (Check, 6, on units.Inode (GaveUp (TurnLimit 7)) ∷ on units.Rmap Good ∷ on units.Free Good ∷ on units.Refc Good ∷ [])
    ∷ []

abbrev pub RefusedSessions : Type 0
RefusedSessions = AreNone refused_sessions

-- ---- sessions that stand

abbrev pub AreSessions : List Judging → Type 0
AreSessions [] = ⊤
AreSessions (row ∷ rows) = Session (unit_order 1) row.0 1 1 row.1 row.2 × AreSessions rows

abbrev pub standing_sessions : List Judging
standing_sessions =
    -- all is rebuilt
    (Rebuild, 0, on units.Inode Rebuilt ∷ on units.Rmap Rebuilt ∷ on units.Free Rebuilt ∷ on units.Refc Rebuilt ∷ [])
    -- a unit in which a fault or a mark came after its verdict doesn't stand any more
    ∷ (
      Check,
      1,
      on units.Inode Good ∷ entries.Marked 0 Fino CauseMissing ∷ on units.Rmap (Skipped 0 units.Inode)
          ∷ on units.Free (Skipped 0 units.Rmap) ∷ on units.Refc (Skipped 0 units.Rmap) ∷ [],
    )
    ∷ (
      Check,
      1,
      on units.Inode Good ∷ on units.Rmap Good ∷ entries.Fault 0 units.Rmap (Block Rmap 5 Checksum)
          ∷ on units.Free (Skipped 0 units.Rmap) ∷ on units.Refc (Skipped 0 units.Rmap) ∷ [],
    )
    -- those of other units don't matter
    ∷ (Repair, 0, on units.Inode Good ∷ on units.Rmap Good ∷ entries.Marked 0 Bno CauseMissing ∷ on units.Free Rebuilt ∷ on units.Refc Good ∷ [])
    -- as many turns as were given
    ∷ (
      Repair,
      6,
      on units.Inode Good ∷ on units.Rmap (GaveUp (TurnLimit 1))
          ∷ on units.Free (Skipped 0 units.Rmap) ∷ on units.Refc (Skipped 0 units.Rmap) ∷ [],
    )
    -- cut short, and never begun
    ∷ (Check, 5, on units.Inode Good ∷ on units.Rmap Good ∷ [])
    ∷ (Check, 4, [])
    ∷ []

abbrev pub StandingSessions : Type 0
StandingSessions = AreSessions standing_sessions
