-- A new image of n groups of `len` blocks: each of its blocks by its number.
use Rattle.std.specs.Prelude.{ℕ, zero, suc, ◌+◌, ◌-◌, ◌*◌, ◌/◌, ◌%◌, ◌^◌, ◌==◌, ◌&&◌, nat_le, nat_lt, if◌then◌else◌, List, [], ◌∷◌, take, replicate}
use Rattle.std.specs.List.{splice}
use Rattle.byte_fields.specs.Checksum.{checksum, blanked}
use Rattle.byte_fields.specs.Fields.{with_low_field}
use Rattle.byte_fields.specs.Zeros.{zeros}
use Rattle.ag_headers.specs.Agf.{agf_written}
use Rattle.ag_headers.specs.Agfl.{agfl_written}
use Rattle.ag_headers.specs.Agi.{agi_written}
use Rattle.ag_headers.specs.Fields.{sector, with_sector}
use Rattle.ag_headers.specs.Ring.{FreeRing, with_last}
use Rattle.ag_headers.specs.declared.agf.Agf.{Agf}
use Rattle.ag_headers.specs.declared.agi.Agi.{Agi}
use Rattle.bulk_load.specs.Leaf.{leaf_bytes}
use Rattle.dinode_core.specs.Encoded.{encoded}
use Rattle.dinode_core.specs.Pieces.{Piece, number, with_pieces}
use Rattle.dinode_core.specs.declared.inode.Core3.{Core3}
use Rattle.ino_recs.specs.Chunks.{ino_form, fino_form}
use Rattle.ino_recs.specs.declared.chunk.InoRec.{InoRec}
use Rattle.rmap_recs.specs.Owners.{number_of}
use Rattle.rmap_recs.specs.Rmap.{rmap_form}
use Rattle.rmap_recs.specs.declared.owner.Owner.{Owner}
use Rattle.rmap_recs.specs.declared.owner.Owner.TheVariants.{Fs, Ag, Inobt, Inodes, Refc}
use Rattle.rmap_recs.specs.declared.records.RmapRec.{RmapRec}
use Rattle.sblock.specs.declared.block.Frame.{Frame}
use Rattle.span_recs.specs.Refcounts.{refc_form}
use Rattle.span_recs.specs.Spans.{bno_form, cnt_form}
use Rattle.span_recs.specs.declared.span.SpanRec.{SpanRec}

-- the bytes 1 to 16
abbrev pub uuid : List ℕ
uuid = 1 ∷ 2 ∷ 3 ∷ 4 ∷ 5 ∷ 6 ∷ 7 ∷ 8 ∷ 9 ∷ 10 ∷ 11 ∷ 12 ∷ 13 ∷ 14 ∷ 15 ∷ 16 ∷ []

-- no inode
abbrev pub no_inode : ℕ
no_inode = 0xffff_ffff

-- ---- the superblock, of which every group has a copy

-- the least number from k on, and k + more at most, whose power of two is no less than len
unfoldable pub covering_log : ℕ → ℕ → ℕ → ℕ
covering_log zero k len = k
covering_log (suc more) k len = if nat_le len (2 ^ k) then k else covering_log more (k + 1) len

unfoldable pub group_log : ℕ → ℕ
group_log len = covering_log 28 0 len

-- sb_magicnum, sb_blocksize, sb_dblocks, sb_uuid
unfoldable pub name_pieces : ℕ → ℕ → List Piece
name_pieces n len =
    number 4 0 0x5846_5342 ∷ number 4 4 4096 ∷ number 8 8 (n * len) ∷ record { at = 32; width = 16; bytes = uuid } ∷ []

-- sb_rootino, sb_rbmino, sb_rsumino
unfoldable pub inode_pieces : List Piece
inode_pieces = number 8 56 192 ∷ number 8 64 193 ∷ number 8 72 194 ∷ []

-- sb_agblocks, sb_agcount, sb_versionnum, sb_sectsize, sb_inodesize, sb_inopblock
unfoldable pub size_pieces : ℕ → ℕ → List Piece
size_pieces n len =
    number 4 84 len ∷ number 4 88 n ∷ number 2 100 5 ∷ number 2 102 512 ∷ number 2 104 512 ∷ number 2 106 8 ∷ []

-- sb_blocklog, sb_inopblog, sb_agblklog, sb_inoalignmt; sb_features_ro_compat with finobt, rmapbt, reflink and
-- inobtcount; sb_features_incompat with ftype and sparse inodes
unfoldable pub form_pieces : ℕ → List Piece
form_pieces len =
    number 1 120 12 ∷ number 1 123 3 ∷ number 1 124 (group_log len) ∷ number 4 180 8 ∷ number 4 212 15 ∷ number 4 216 3 ∷ []

unfoldable pub with_fields : ℕ → ℕ → List ℕ → List ℕ
with_fields n len block =
    with_pieces (form_pieces len) (with_pieces (size_pieces n len) (with_pieces inode_pieces (with_pieces (name_pieces n len) block)))

-- the fields, and the checksum over 512 bytes (sb_crc)
unfoldable pub with_superblock : ℕ → ℕ → List ℕ → List ℕ
with_superblock n len block =
    with_low_field 4 (with_fields n len block) 224 (checksum (blanked (take 512 (with_fields n len block)) 224))

-- ---- the heads of group g

-- the free runs: behind the free list, and in group 0 behind the chunk of inodes
abbrev pub free_runs : ℕ → ℕ → List SpanRec
free_runs len g =
    if g == 0 then record { start = 19; count = 5 } ∷ record { start = 32; count = len - 32 } ∷ []
    else record { start = 19; count = len - 19 } ∷ []

abbrev pub free_blocks : ℕ → ℕ → ℕ
free_blocks len g = if g == 0 then len - 27 else len - 19

abbrev pub longest_run : ℕ → ℕ → ℕ
longest_run len g = if g == 0 then len - 32 else len - 19

-- the roots of the six trees are blocks 1 to 6, each of them one leaf
unfoldable pub fresh_agf : ℕ → ℕ → Agf
fresh_agf len g = record {
  seqno = g;
  length = len;
  bno_root = 1;
  cnt_root = 2;
  rmap_root = 5;
  bno_level = 1;
  cnt_level = 1;
  rmap_level = 1;
  flfirst = 0;
  fllast = 11;
  flcount = 12;
  freeblks = free_blocks len g;
  longest = longest_run len g;
  btreeblks = 0;
  uuid = uuid;
  rmap_blocks = 1;
  refcount_blocks = 1;
  refcount_root = 6;
  refcount_level = 1;
  lsn = 0;
}

-- group 0 has a chunk of 64 inodes, of which three are allocated
unfoldable pub fresh_agi : ℕ → ℕ → Agi
fresh_agi len g = record {
  seqno = g;
  length = len;
  count = if g == 0 then 64 else 0;
  root = 3;
  level = 1;
  freecount = if g == 0 then 61 else 0;
  newino = if g == 0 then 192 else no_inode;
  dirino = no_inode;
  unlinked = replicate 64 no_inode;
  uuid = uuid;
  lsn = 0;
  free_root = 4;
  free_level = 1;
  iblocks = 1;
  fblocks = 1;
}

-- the free list has blocks 7 to 18, put one after the other into an empty one
abbrev pub listed : ℕ → FreeRing → FreeRing
listed zero ring = ring
listed (suc k) ring = with_last (listed k ring) (7 + k)

unfoldable pub empty_list : ℕ → FreeRing
empty_list g = record { seqno = g; uuid = uuid; lsn = 0; numbers = replicate 119 0; first = 0; last = 118; count = 0 }

unfoldable pub fresh_list : ℕ → FreeRing
fresh_list g = listed 12 (empty_list g)

abbrev pub with_agf : Agf → List ℕ → List ℕ
with_agf agf block = with_sector 1 block (agf_written agf (sector 1 block))

abbrev pub with_agi : Agi → List ℕ → List ℕ
with_agi agi block = with_sector 2 block (agi_written agi (sector 2 block))

abbrev pub with_agfl : FreeRing → List ℕ → List ℕ
with_agfl list block = with_sector 3 block (agfl_written list (sector 3 block))

-- block 0 of group g
unfoldable pub fresh_heads : ℕ → ℕ → ℕ → List ℕ
fresh_heads n len g =
    with_agfl (fresh_list g) (with_agi (fresh_agi len g) (with_agf (fresh_agf len g) (with_superblock n len zeros)))

-- ---- the roots of group g

abbrev pub fresh_frame : ℕ → ℕ → Frame
fresh_frame len g = record { group = g; first = g * len; uuid = uuid; lsn = 0 }

-- three inodes of the chunk are allocated
abbrev pub chunks : ℕ → List InoRec
chunks g =
    if g == 0 then record { startino = 192; holemask = 0; count = 64; freecount = 61; free = 0xffff_ffff_ffff_fff8 } ∷ [] else []

abbrev pub held : ℕ → ℕ → Owner → RmapRec
held start count owner = record { start = start; count = count; owner = number_of owner; word = 0 }

-- the heads, the space trees, the inode trees, the tree of these records, that of reference counts, the free
-- list, and the chunk
abbrev pub owned : ℕ → List RmapRec
owned g =
    held 0 1 Fs ∷ held 1 2 Ag ∷ held 3 2 Inobt ∷ held 5 1 Ag ∷ held 6 1 Refc ∷ held 7 12 Ag
    ∷ (if g == 0 then held 24 8 Inodes ∷ [] else [])

-- the root of the tree in block b
unfoldable pub fresh_root : ℕ → ℕ → ℕ → List ℕ
fresh_root len g b =
    if b == 1 then leaf_bytes bno_form (free_runs len g) (fresh_frame len g) 1
    else if b == 2 then leaf_bytes cnt_form (free_runs len g) (fresh_frame len g) 2
    else if b == 3 then leaf_bytes ino_form (chunks g) (fresh_frame len g) 3
    else if b == 4 then leaf_bytes fino_form (chunks g) (fresh_frame len g) 4
    else if b == 5 then leaf_bytes rmap_form (owned g) (fresh_frame len g) 5
    else leaf_bytes refc_form [] (fresh_frame len g) 6

-- ---- the inodes of group 0

-- the root directory, and the two files of the realtime device; the others are free
abbrev pub mode_of : ℕ → ℕ
mode_of ino = if ino == 192 then 0x41ed else if nat_le ino 194 then 0x8000 else 0

-- local, and extents
abbrev pub format_of : ℕ → ℕ
format_of ino = if ino == 192 then 1 else if nat_le ino 194 then 2 else 0

unfoldable pub fresh_core : ℕ → Core3
fresh_core ino = record {
  mode = mode_of ino;
  format = format_of ino;
  uid = 0;
  nlink = 0;
  big_nextents = 0;
  nblocks = 0;
  nextents = 0;
  anextents = 0;
  forkoff = 0;
  aformat = 0;
  flags = 0;
  next_unlinked = no_inode;
  changecount = 0;
  lsn = 0;
  flags2 = 0;
  ino = ino;
  uuid = uuid;
  literal = replicate 336 0;
}

-- the block with the first k of eight inodes from number `first` on
unfoldable pub with_inodes : ℕ → ℕ → List ℕ → List ℕ
with_inodes zero first block = block
with_inodes (suc k) first block =
    splice (with_inodes k first block) (512 * k) (512 * k + 512) (encoded (fresh_core (first + k)) (replicate 512 0))

-- block k of the chunk
unfoldable pub fresh_inodes : ℕ → List ℕ
fresh_inodes k = with_inodes 8 (192 + 8 * k) zeros

-- ---- the image

-- block b of group g
unfoldable pub fresh_in : ℕ → ℕ → ℕ → ℕ → List ℕ
fresh_in n len g b =
    if b == 0 then fresh_heads n len g
    else if nat_le b 6 then fresh_root len g b
    else if (g == 0) && nat_le 24 b && nat_lt b 32 then fresh_inodes (b - 24)
    else zeros

-- block `at` of the image
abbrev pub fresh : ℕ → ℕ → ℕ → List ℕ
fresh n len at = fresh_in n len (at / len) (at % len)
