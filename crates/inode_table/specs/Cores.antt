-- The cores of inodes that are taken, given back, or made with their chunk ("On-disk Inode").
use Rattle.std.specs.Prelude.{ℕ, ◌*◌, List, take, drop, replicate}
use Rattle.dinode_core.specs.Encoded.{encoded}
use Rattle.dinode_core.specs.declared.inode.Core3.{Core3}

-- a new regular file: its mode, its owner and one link, both forks empty; the rest of the core stays
unfoldable pub fresh_file : Core3 → ℕ → Core3
fresh_file core uid = record core {
  mode = 0x81a4;
  format = 2;
  uid = uid;
  nlink = 1;
  big_nextents = 0;
  nblocks = 0;
  nextents = 0;
  anextents = 0;
  forkoff = 0;
  aformat = 2;
  flags = 0;
  flags2 = 0;
}

-- a free inode: mode 0, and no mapping; the rest of the core stays
unfoldable pub given_back : Core3 → Core3
given_back core = record core { mode = 0; big_nextents = 0; nextents = 0; anextents = 0 }

-- the core of an inode that was never taken
unfoldable pub free_core : ℕ → List ℕ → Core3
free_core ino uuid = record {
  mode = 0;
  format = 0;
  uid = 0;
  nlink = 0;
  big_nextents = 0;
  nblocks = 0;
  nextents = 0;
  anextents = 0;
  forkoff = 0;
  aformat = 0;
  flags = 0;
  next_unlinked = 0xffff_ffff;
  changecount = 0;
  lsn = 0;
  flags2 = 0;
  ino = ino;
  uuid = uuid;
  literal = replicate 336 0;
}

-- and its bytes: the core, and zeros where no field is
abbrev pub free_bytes : ℕ → List ℕ → List ℕ
free_bytes ino uuid = encoded (free_core ino uuid) (replicate 512 0)

-- the bytes of one of the eight inodes of a block
abbrev pub slot_of : List ℕ → ℕ → List ℕ
slot_of block s = take 512 (drop (512 * s) block)
