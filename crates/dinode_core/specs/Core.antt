-- The core of a version 3 inode: its fields, the tests in their order, and the first that fails.
use Rattle.std.specs.Prelude.{ℕ, ◌==◌, Bool, List, [], ◌∷◌, slice_index, take, drop, Option}
use Rattle.byte_fields.specs.Checksum.{has_sum}
use Rattle.byte_fields.specs.Fields.{field, has_uuid}
use Rattle.byte_fields.specs.FirstFailing.{first_failing}
use Rattle.dinode_core.specs.declared.inode.Core3.{Core3}
use Rattle.dinode_core.specs.declared.inode.CoreFault.{CoreFault}
use Rattle.dinode_core.specs.declared.inode.CoreFault.TheVariants.{Magic, Version, Number, Checksum, Uuid}

-- each field at its offset, and the literal area from 176 on
unfoldable pub core_of : List ℕ → Core3
core_of bytes = record {
  mode = field 2 bytes 2;
  format = slice_index bytes 5;
  uid = field 4 bytes 8;
  nlink = field 4 bytes 16;
  big_nextents = field 8 bytes 24;
  nblocks = field 8 bytes 64;
  nextents = field 4 bytes 76;
  anextents = field 2 bytes 80;
  forkoff = slice_index bytes 82;
  aformat = slice_index bytes 83;
  flags = field 2 bytes 90;
  next_unlinked = field 4 bytes 96;
  changecount = field 8 bytes 104;
  lsn = field 8 bytes 112;
  flags2 = field 8 bytes 120;
  ino = field 8 bytes 152;
  uuid = take 16 (drop 160 bytes);
  literal = take 336 (drop 176 bytes);
}

-- the tests in their order, each with the fault where it fails: di_magic, di_version, di_ino, di_crc, di_uuid
abbrev pub core_tests : List ℕ → ℕ → List ℕ → List (Bool × CoreFault)
core_tests bytes ino uuid =
    (field 2 bytes 0 == 0x494e, Magic)
    ∷ (slice_index bytes 4 == 3, Version)
    ∷ (field 8 bytes 152 == ino, Number)
    ∷ (has_sum bytes 100, Checksum)
    ∷ (has_uuid bytes 160 uuid, Uuid)
    ∷ []

-- the first fault of the inode of this number in the file system with this UUID
unfoldable pub core_fault : List ℕ → ℕ → List ℕ → Option CoreFault
core_fault bytes ino uuid = first_failing (core_tests bytes ino uuid)
