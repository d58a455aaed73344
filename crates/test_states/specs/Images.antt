-- Small images as plain states: one of a group of 256 blocks, freshly made, and what the rows make of it.
use Rattle.std.specs.Prelude.{ℕ, true, false, List, [], ◌∷◌, Option, Some, None, Result, Ok, ◌-◌, ◌^◌, ◌==◌, ◌&&◌, nat_le, nat_lt, if◌then◌else◌}
use Rattle.dinode_core.specs.declared.inode.CoreFault.TheVariants.{Magic as NoCore}
use Rattle.dinode_core.specs.declared.mapping.Fork.{Fork}
use Rattle.dinode_core.specs.declared.mapping.Fork.TheVariants as forks
use Rattle.dinode_core.specs.declared.mapping.ForkFault.{ForkFault}
use Rattle.dinode_core.specs.declared.mapping.Mapping.{Mapping}
use Rattle.fs_model.specs.declared.fault.Counter.{Counter}
use Rattle.fs_model.specs.declared.fault.Counter.TheVariants.{Count, Freecount, Iblocks, Fblocks, RmapBlocks, Freeblks, Longest, Btreeblks, RefcountBlocks}
use Rattle.fs_model.specs.declared.unit.Trust.TheVariants.{Unknown, Sick}
use Rattle.geom.specs.Layout.{Layout}
use Rattle.ino_recs.specs.declared.chunk.InoRec.{InoRec}
use Rattle.rmap_recs.specs.declared.records.RmapRec.{RmapRec}
use Rattle.sblock.specs.declared.block.BlockFault.{BlockFault}
use Rattle.sblock.specs.declared.kind.Kind.{Kind}
use Rattle.sblock.specs.declared.kind.Kind.TheVariants.{Bno, Cnt, Rmap, Refc, Ino, Fino}
use Rattle.span_recs.specs.declared.refcount.RefcRec.{RefcRec}
use Rattle.span_recs.specs.declared.span.SpanRec.{SpanRec}
use Rattle.fs_state.specs.Kinds.{RecOf}
use Rattle.fs_state.specs.State.{State, Group, Index, Readable, Unreadable, CoreState, Broken, Whole, ForkList}
use Rattle.fs_state.specs.Lists.{numbers}

-- ---- records

abbrev pub span : ℕ → ℕ → SpanRec
span s n = record { start = s; count = n }

abbrev pub shared : ℕ → ℕ → ℕ → RefcRec
shared s n v = record { start = s; count = n; refcount = v }

abbrev pub mapped : ℕ → ℕ → ℕ → ℕ → RmapRec
mapped s n o w = record { start = s; count = n; owner = o; word = w }

abbrev pub chunk : ℕ → ℕ → ℕ → InoRec
chunk i f m = record { startino = i; holemask = 0; count = 64; freecount = f; free = m }

-- owners: the heads, the log, the group's own, inode btrees, chunks, the reference count btree
abbrev pub fs : ℕ
fs = 2 ^ 64 - 3

abbrev pub log : ℕ
log = 2 ^ 64 - 4

abbrev pub ag : ℕ
ag = 2 ^ 64 - 5

abbrev pub inobt : ℕ
inobt = 2 ^ 64 - 6

abbrev pub inodes : ℕ
inodes = 2 ^ 64 - 7

abbrev pub refc : ℕ
refc = 2 ^ 64 - 8

-- ---- groups

-- the six trees, each by its blocks and records
pub record Trees : Type 0 where
  pub bno : Index SpanRec
  pub cnt : Index SpanRec
  pub rmap : Index RmapRec
  pub refcounts : Index RefcRec
  pub ino : Index InoRec
  pub fino : Index InoRec

abbrev pub tree_in : Trees → (k : Kind) → Index (RecOf k)
tree_in t Bno = t.bno
tree_in t Cnt = t.cnt
tree_in t Rmap = t.rmap
tree_in t Refc = t.refcounts
tree_in t Ino = t.ino
tree_in t Fino = t.fino

abbrev pub tree_of : {R : Type 0} → List ℕ → List R → Index R
tree_of bs rs = record { reading = Readable rs bs; trust = Unknown }

-- a tree that can't be read, with the blocks that it still claims
abbrev pub bad : {R : Type 0} → ℕ → BlockFault → List ℕ → Index R
bad b fault claims = record { reading = Unreadable b fault claims; trust = Sick }

-- the counters of a fresh group but for three: free inodes, free blocks and the longest run of these
abbrev pub counters_with : ℕ → ℕ → ℕ → Counter → ℕ
counters_with free_inodes free_blocks longest Count = 64
counters_with free_inodes free_blocks longest Freecount = free_inodes
counters_with free_inodes free_blocks longest Iblocks = 1
counters_with free_inodes free_blocks longest Fblocks = 1
counters_with free_inodes free_blocks longest RmapBlocks = 1
counters_with free_inodes free_blocks longest Freeblks = free_blocks
counters_with free_inodes free_blocks longest Longest = longest
counters_with free_inodes free_blocks longest Btreeblks = 0
counters_with free_inodes free_blocks longest RefcountBlocks = 1

-- 61 of 64 inodes are free: all but the first three
abbrev pub mask : ℕ
mask = 2 ^ 64 - 8

abbrev pub free_a : List SpanRec
free_a = span 19 5 ∷ span 32 224 ∷ []

abbrev pub mappings_a : List RmapRec
mappings_a =
    mapped 0 1 fs 0 ∷ mapped 1 2 ag 0 ∷ mapped 3 2 inobt 0 ∷ mapped 5 1 ag 0 ∷ mapped 6 1 refc 0
    ∷ mapped 7 12 ag 0 ∷ mapped 24 8 inodes 0 ∷ []

abbrev pub trees_a : Trees
trees_a = record {
  bno = tree_of (1 ∷ []) free_a;
  cnt = tree_of (2 ∷ []) free_a;
  ino = tree_of (3 ∷ []) (chunk 192 61 mask ∷ []);
  fino = tree_of (4 ∷ []) (chunk 192 61 mask ∷ []);
  rmap = tree_of (5 ∷ []) mappings_a;
  refcounts = tree_of (6 ∷ []) [];
}

abbrev pub group_with : List ℕ → (Counter → ℕ) → Trees → Group
group_with list counters trees = record { free_list = list; counters = counters; tree = tree_in trees; reserve = []; limbo = [] }

-- ---- inodes

abbrev pub core : ℕ → CoreState
core mode = Whole (record { mode = mode; uid = 0; reflink = false })

abbrev pub directory : ℕ
directory = 0x41ed

abbrev pub regular : ℕ
regular = 0x8000

-- 192 is a directory, those up to the second number are regular files, and those up to 255 free; in no other block
-- stand cores
abbrev pub cores_to : ℕ → ℕ → Option CoreState
cores_to last ino =
    if nat_le 192 ino && nat_lt ino 256
    then Some (core (if ino == 192 then directory else if nat_le ino last then regular else 0))
    else if nat_lt ino 2048 then Some (Broken NoCore) else None

abbrev pub mapping : ℕ → ℕ → ℕ → Mapping
mapping offset block count = record { offset = offset; block = block; count = count; unwritten = false }

abbrev pub fork_with : List Mapping → Result ForkList ForkFault
fork_with ms = Ok (record { mappings = ms; blocks = [] })

abbrev pub of_fork : {X : Type 0} → X → X → Fork → X
of_fork first second forks.Data = first
of_fork first second forks.Attr = second

-- the inode has these two forks, all others are empty
abbrev pub forks_of : ℕ → Result ForkList ForkFault → Result ForkList ForkFault → ℕ → Fork → Result ForkList ForkFault
forks_of ino first second i f = if i == ino then of_fork first second f else fork_with []

-- ---- images

-- one group of so many blocks
abbrev pub layout : ℕ → Layout
layout blocks = record { agblocks = blocks; agcount = 1; dblocks = blocks; agblklog = 8; uuid = []; log = None; kept = []; inobtcount = true }

abbrev pub image : Group → (ℕ → Option CoreState) → (ℕ → Fork → Result ForkList ForkFault) → State
image group cores forks = record { geometry = layout 256; group = λ g. group; core = cores; fork = forks; chains = λ c. [] }

abbrev pub no_forks : ℕ → Fork → Result ForkList ForkFault
no_forks i f = fork_with []

-- the fresh image, with trees and counters
abbrev pub fresh_with : (Counter → ℕ) → Trees → State
fresh_with counters trees = image (group_with (numbers 7 12) counters trees) (cores_to 194) no_forks

abbrev pub image_a : State
image_a = fresh_with (counters_with 61 229 224) trees_a

-- with the regular file 195, which both inode trees list
abbrev pub trees_with_file : Trees → Trees
trees_with_file t = record t { ino = tree_of (3 ∷ []) (chunk 192 60 (2 ^ 64 - 16) ∷ []); fino = tree_of (4 ∷ []) (chunk 192 60 (2 ^ 64 - 16) ∷ []) }

-- the file has these mappings
abbrev pub file_with : (Counter → ℕ) → Trees → Result ForkList ForkFault → State
file_with counters trees fork =
    image (group_with (numbers 7 12) counters (trees_with_file trees)) (cores_to 195) (forks_of 195 fork (fork_with []))
