-- What a superblock states of its image: how its groups lie, where the log is, and which inodes it names.
-- The type `Geometry` isn't named here, so that a fact about a superblock's bytes needs no such value.
use Rattle.std.specs.Prelude.{ℕ, ◌+◌, ◌*◌, ◌/◌, ◌%◌, ◌^◌, ◌==◌, Bool, if◌then◌else◌, List, [], ◌∷◌, take, drop, Option, option_map, Some, None}
use Rattle.std.specs.Int.RustNames.{bit_and}
use Rattle.byte_fields.specs.Fields.{field}
use Rattle.geom.specs.declared.geometry.Run3.{Run3}
use Rattle.geom.specs.declared.fields.Counts.{Counts}
use Rattle.geom.specs.Numbers.{length_of, split}
use Rattle.geom.specs.Superblock.{counts_of, read_only_compatible}

pub record Layout : Type 0 where
  pub agblocks : ℕ
  pub agcount : ℕ
  pub dblocks : ℕ
  pub agblklog : ℕ
  pub uuid : List ℕ
  pub log : Option Run3
  pub kept : List ℕ
  pub inobtcount : Bool

-- how many blocks the group has
abbrev pub group_len_of : Layout → ℕ → ℕ
group_len_of at g = length_of at.agblocks at.agcount at.dblocks g

-- the block of the device where a group's block lies
abbrev pub device_block_of : Layout → ℕ → ℕ → ℕ
device_block_of at g b = g * at.agblocks + b

-- the same in units of 512 bytes, as a block's head states its own place
abbrev pub blkno_of : Layout → ℕ → ℕ → ℕ
blkno_of at g b = device_block_of at g b * 8

-- the file system's number of a group's block: the group above the low agblklog bits
abbrev pub fs_block_of : Layout → ℕ → ℕ → ℕ
fs_block_of at g b = g * 2 ^ at.agblklog + b

-- the group and block of a file system block number, where the image has that block
abbrev pub split_of : Layout → ℕ → Option (ℕ × ℕ)
split_of at n = split at.agblocks at.agcount at.dblocks at.agblklog n

-- the device block of a group's block, where there is one
abbrev pub device_at : Layout → Option (ℕ × ℕ) → Option ℕ
device_at at place = option_map (λ p. device_block_of at p.0 p.1) place

-- the number of the inode in this slot of a group's block: the block's number above the three bits of the slot
abbrev pub inode_at : Layout → ℕ → ℕ → ℕ → ℕ
inode_at at g b slot = fs_block_of at g b * 8 + slot

-- where the log lies: none where it is on another device
unfoldable pub log_of : Counts → Option Run3
log_of c =
    if c.logstart == 0 then None
    else Some (record { group = c.logstart / 2 ^ c.agblklog; start = c.logstart % 2 ^ c.agblklog; count = c.logblocks })

-- the inodes that the superblock names: sb_rootino, sb_rbmino, sb_rsumino, sb_uquotino, sb_gquotino, sb_pquotino
abbrev pub kept_of : List ℕ → List ℕ
kept_of sb = field 8 sb 56 ∷ field 8 sb 64 ∷ field 8 sb 72 ∷ field 8 sb 160 ∷ field 8 sb 168 ∷ field 8 sb 232 ∷ []

-- bit 3: heads count the blocks of the two inode trees
abbrev pub has_inobtcount : List ℕ → Bool
has_inobtcount sb = bit_and (read_only_compatible sb) 8 == 8

-- what the superblock states; sb_uuid is at 32
unfoldable pub layout_of : List ℕ → Layout
layout_of sb = record {
  agblocks = (counts_of sb).agblocks;
  agcount = (counts_of sb).agcount;
  dblocks = (counts_of sb).dblocks;
  agblklog = (counts_of sb).agblklog;
  uuid = take 16 (drop 32 sb);
  log = log_of (counts_of sb);
  kept = kept_of sb;
  inobtcount = has_inobtcount sb;
}
