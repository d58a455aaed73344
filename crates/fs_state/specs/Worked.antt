-- One small image, worked: who claims its blocks, and which evidence is shown first. It pins what the definitions mean
-- where no law does.
use Rattle.std.specs.Prelude.{◌≡◌, ℕ, ◌^◌, ◌+◌, ◌==◌, ◌&&◌, ◌||◌, nat_le, nat_lt, Bool, true, false, List, [], ◌∷◌, ◌++◌, map, Option, Some, None, Result, Ok, Err, if◌then◌else◌}
use Rattle.dinode_core.specs.declared.inode.CoreFault.TheVariants.{Checksum as BadSum}
use Rattle.dinode_core.specs.declared.mapping.Fork.{Fork}
use Rattle.dinode_core.specs.declared.mapping.Fork.TheVariants as forks
use Rattle.dinode_core.specs.declared.mapping.ForkFault.{ForkFault}
use Rattle.dinode_core.specs.declared.mapping.ForkFault.TheVariants.{Order as ForkOrder, Range as ForkRange}
use Rattle.dinode_core.specs.declared.mapping.Mapping.{Mapping}
use Rattle.fs_model.specs.declared.claim.Claim.{Claim}
use Rattle.fs_model.specs.declared.claim.Claim.TheVariants.{Heads, Log, List as FreeList, Tree, Reserve, Limbo, Chunk, Data, Attr, ForkTree}
use Rattle.fs_model.specs.declared.claim.Evidence.TheVariants.{BadFork, BadChunk, BadTree, Overlap, Later}
use Rattle.fs_model.specs.declared.unit.Trust.TheVariants.{Unknown}
use Rattle.fs_model.specs.declared.unit.Unit.TheVariants as units
use Rattle.geom.specs.Layout.{Layout}
use Rattle.ino_recs.specs.declared.chunk.InoRec.{InoRec}
use Rattle.rmap_recs.specs.Owners.{number_of}
use Rattle.rmap_recs.specs.declared.owner.Owner.{Owner}
use Rattle.rmap_recs.specs.declared.owner.Owner.TheVariants.{Fs, Log as OfLog, Ag, Inobt, Inodes, Refc as OfRefc}
use Rattle.rmap_recs.specs.declared.records.RmapRec.{RmapRec}
use Rattle.sblock.specs.declared.block.BlockFault.TheVariants.{Checksum, Later as LaterForm}
use Rattle.sblock.specs.declared.kind.Kind.{Kind}
use Rattle.sblock.specs.declared.kind.Kind.TheVariants.{Bno, Cnt, Rmap, Refc, Ino, Fino}
use Rattle.fs_state.specs.Kinds.{RecOf}
use Rattle.fs_state.specs.State.{State, Group, Reading, Readable, Unreadable, CoreState, Broken, Whole, ForkList}
use Rattle.fs_state.specs.Chunks.{chunks}
use Rattle.fs_state.specs.Claims.{Claimed, claims, metadata_claims}
use Rattle.fs_state.specs.Contradiction.{evidence, first_overlap}
use Rattle.fs_state.specs.Derive.{ino_of, fino_of}

-- ---- a group of 32 blocks with the log in blocks 28 and 29, and inodes 64 to 127 in blocks 8 to 15, all allocated

abbrev pub layout : Layout
layout = record { agblocks = 32; agcount = 1; dblocks = 32; agblklog = 5; uuid = []; log = Some (record { group = 0; start = 28; count = 2 }); kept = []; inobtcount = true }

abbrev pub chunk : InoRec
chunk = record { startino = 64; holemask = 0; count = 64; freecount = 0; free = 0 }

abbrev pub mappings : List RmapRec
mappings = record { start = 8; count = 8; owner = number_of Inodes; word = 0 } ∷ []

-- free space by start can't be read, and claims blocks 1 and 7; the inode btree and the reverse mappings are as said
abbrev pub tree_with : Reading InoRec → Reading RmapRec → (k : Kind) → Reading (RecOf k)
tree_with ino rmap Bno = Unreadable 1 Checksum (1 ∷ 7 ∷ [])
tree_with ino rmap Cnt = Readable [] (2 ∷ [])
tree_with ino rmap Rmap = rmap
tree_with ino rmap Refc = Readable [] (6 ∷ [])
tree_with ino rmap Ino = ino
tree_with ino rmap Fino = Readable [] (4 ∷ [])

abbrev pub core_with : CoreState → ℕ → Option CoreState
core_with odd ino =
    if nat_le 64 ino && nat_lt ino 128 then Some (if ino == 70 then odd else Whole (record { mode = 0x8000; uid = 0; reflink = false })) else None

abbrev pub written : ℕ → ℕ → Mapping
written offset block = record { offset = offset; block = block; count = 1; unwritten = false }

-- file 64 has an unwritten block, and a btree block in each fork; file 65 shares its first block
abbrev pub fork : ℕ → Fork → Result ForkList ForkFault
fork ino forks.Data =
    Ok (if ino == 64 then record { mappings = written 0 20 ∷ record { offset = 1; block = 22; count = 1; unwritten = true } ∷ []; blocks = record { block = 18; before = 0 } ∷ [] }
    else if ino == 65 then record { mappings = written 0 20 ∷ []; blocks = [] }
    else record { mappings = []; blocks = [] })
fork ino forks.Attr =
    Ok (if ino == 64 then record { mappings = written 0 21 ∷ []; blocks = record { block = 19; before = 0 } ∷ [] } else record { mappings = []; blocks = [] })

abbrev pub group_with : List ℕ → Reading InoRec → Reading RmapRec → Group
group_with list ino rmap =
    record {
      free_list = list;
      counters = λ name. 0;
      tree = λ k. record { reading = tree_with ino rmap k; trust = Unknown };
      reserve = record { block = 24; owner = number_of Inobt } ∷ [];
      limbo = record { block = 25; owner = number_of Ag } ∷ [];
    }

abbrev pub state_with : List ℕ → Reading InoRec → Reading RmapRec → CoreState → State
state_with list ino rmap odd = record { geometry = layout; group = λ g. group_with list ino rmap; core = core_with odd; fork = fork; chains = λ c. [] }

abbrev pub whole : CoreState
whole = Whole (record { mode = 0x8000; uid = 0; reflink = false })

abbrev pub listing : Reading InoRec
listing = Readable (chunk ∷ []) (3 ∷ [])

abbrev pub image : State
image = state_with (16 ∷ 17 ∷ []) listing (Readable mappings (5 ∷ [])) whole

-- ---- what is claimed

abbrev pub by : Claim → Owner → ℕ → Claimed
by claim owner block = record { block = block; claim = claim; owner = number_of owner; word = 0 }

abbrev pub of_file : Claim → ℕ → ℕ → ℕ → Claimed
of_file claim ino block word = record { block = block; claim = claim; owner = ino; word = word }

abbrev pub all_claims : List Claimed
all_claims =
    by Heads Fs 0 ∷ by Log OfLog 28 ∷ by Log OfLog 29 ∷ by FreeList Ag 16 ∷ by FreeList Ag 17
    ∷ by (Tree Bno) Ag 1 ∷ by (Tree Bno) Ag 7 ∷ by (Tree Cnt) Ag 2 ∷ by (Tree Rmap) Ag 5 ∷ by (Tree Refc) OfRefc 6 ∷ by (Tree Ino) Inobt 3 ∷ by (Tree Fino) Inobt 4
    ∷ by Reserve Inobt 24 ∷ by Limbo Ag 25
    ∷ map (by Chunk Inodes) (8 ∷ 9 ∷ 10 ∷ 11 ∷ 12 ∷ 13 ∷ 14 ∷ 15 ∷ [])
    ++ of_file (Data 64) 64 20 0 ∷ of_file (Data 64) 64 22 (1 + 2 ^ 61) ∷ of_file (Data 65) 65 20 0
    ∷ of_file (Attr 64) 64 21 (2 ^ 63) ∷ of_file (ForkTree 64) 64 18 (2 ^ 62) ∷ of_file (ForkTree 64) 64 19 (2 ^ 62 + 2 ^ 63) ∷ []

-- ---- what is derived

-- inode 70 is free
abbrev pub one_free : State
one_free = state_with (16 ∷ 17 ∷ []) listing (Readable mappings (5 ∷ [])) (Whole (record { mode = 0; uid = 0; reflink = false }))

-- so the chunk has one free inode, the seventh
abbrev pub chunk_with_one : InoRec
chunk_with_one = record chunk { freecount = 1; free = 2 ^ 6 }

-- ---- what contradicts it

-- block 8 of the chunk stands in the free list too
abbrev pub one_reason : State
one_reason = state_with (8 ∷ []) listing (Readable mappings (5 ∷ [])) whole

-- and a block that a btree has, a lower one
abbrev pub two_blocks : State
two_blocks = state_with (8 ∷ 1 ∷ []) listing (Readable mappings (5 ∷ [])) whole

-- both forks of file 67 can't be read, and where it is said neither can the attribute fork of file 66
abbrev pub bad_fork : Bool → ℕ → Fork → Result ForkList ForkFault
bad_fork both ino forks.Data = if ino == 67 then Err ForkOrder else fork ino forks.Data
bad_fork both ino forks.Attr = if (ino == 67) || (both && (ino == 66)) then Err ForkRange else fork ino forks.Attr

abbrev pub bad_forks : Bool → State
bad_forks both = record one_reason { fork = bad_fork both }

-- a core of the chunk doesn't verify, and the free list has a block of a btree
abbrev pub two_reasons : State
two_reasons = state_with (1 ∷ []) listing (Readable mappings (5 ∷ [])) (Broken BadSum)

-- neither tree that lists chunks can be read, and the free list has that block too
abbrev pub no_listing : State
no_listing = state_with (1 ∷ []) (Unreadable 3 Checksum (3 ∷ [])) (Unreadable 5 Checksum (5 ∷ [])) whole

-- one of these two has a form that isn't supported yet
abbrev pub later_form : State
later_form = state_with (1 ∷ []) (Unreadable 3 LaterForm (3 ∷ [])) (Unreadable 5 Checksum (5 ∷ [])) whole

pub record Worked : Type 0 where
  pub claimed : claims image 0 ≡ all_claims
  -- two files may share a block of written data
  pub shared : evidence image 0 units.Rmap ≡ None
  -- a core that doesn't verify makes of the unit no chunk
  pub is_chunk : chunks image 0 ≡ 1 ∷ []
  pub no_chunk : chunks two_reasons 0 ≡ []
  -- full chunks aren't among those with free inodes
  pub full : ino_of image 0 ≡ chunk ∷ []
  pub none_free : fino_of image 0 ≡ []
  pub frees_one : ino_of one_free 0 ≡ chunk_with_one ∷ []
  pub has_free : fino_of one_free 0 ≡ chunk_with_one ∷ []
  pub overlap : evidence one_reason 0 units.Inode ≡ Some (Overlap 8 FreeList Chunk)
  -- the lowest block
  pub lowest : evidence two_blocks 0 units.Inode ≡ Some (Overlap 1 FreeList (Tree Bno))
  -- a bad fork before any overlap: that of the lowest inode, and its data fork first
  pub lowest_fork : evidence (bad_forks true) 0 units.Rmap ≡ Some (BadFork 66 ForkRange)
  pub data_first : evidence (bad_forks false) 0 units.Rmap ≡ Some (BadFork 67 ForkOrder)
  -- each of these has an overlap besides, and the last one what the one above it shows
  pub besides : first_overlap two_reasons 0 (metadata_claims two_reasons 0) ≡ Some (Overlap 1 FreeList (Tree Bno))
  pub core : evidence two_reasons 0 units.Inode ≡ Some (BadChunk 8 BadSum)
  pub unlisted : evidence no_listing 0 units.Inode ≡ Some (BadTree Rmap 5)
  pub later : evidence later_form 0 units.Inode ≡ Some (Later Ino 3)
