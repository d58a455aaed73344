-- The AGI, in sector 2: the head of a group's inodes.
use Rattle.std.specs.Prelude.{ℕ, List, [], ◌∷◌, ◌++◌, Option}
use Rattle.byte_fields.specs.Fields.{field}
use Rattle.geom.specs.Layout.{Layout}
use Rattle.ag_headers.specs.Fields.{sector, uuid_at, numbers_at, with_numbers, with_table, stamped}
use Rattle.ag_headers.specs.Tests.{head_ids, head_fault}
use Rattle.ag_headers.specs.declared.agi.Agi.{Agi}
use Rattle.ag_headers.specs.declared.head.Form.{Form}
use Rattle.ag_headers.specs.declared.fault.HeadFault.{HeadFault}

abbrev pub agi_form : Form
agi_form = record { magic = 0x5841_4749; uuid_at = 296; lsn_at = 320; sum_at = 312 }

-- the first fault of the AGI in a group's block 0
abbrev pub agi_fault : Layout → ℕ → List ℕ → Option HeadFault
agi_fault at g block = head_fault agi_form at g (sector 2 block)

-- what an AGI's sector states
unfoldable pub agi_in : List ℕ → Agi
agi_in agi = record {
  seqno = field 4 agi 8;
  length = field 4 agi 12;
  count = field 4 agi 16;
  root = field 4 agi 20;
  level = field 4 agi 24;
  freecount = field 4 agi 28;
  newino = field 4 agi 32;
  dirino = field 4 agi 36;
  unlinked = numbers_at 64 agi 40;
  uuid = uuid_at agi 296;
  lsn = field 8 agi 320;
  free_root = field 4 agi 328;
  free_level = field 4 agi 332;
  iblocks = field 4 agi 336;
  fblocks = field 4 agi 340;
}

-- the AGI in a group's block 0
abbrev pub agi_of : List ℕ → Agi
agi_of block = agi_in (sector 2 block)

-- the places of an AGI's numbers of four bytes: the inodes and their tree, and the tree of chunks with free
-- inodes with the blocks of both trees
abbrev pub agi_inodes : Agi → List (ℕ × ℕ)
agi_inodes agi =
    (16, agi.count) ∷ (20, agi.root) ∷ (24, agi.level) ∷ (28, agi.freecount) ∷ (32, agi.newino) ∷ (36, agi.dirino) ∷ []

abbrev pub agi_free : Agi → List (ℕ × ℕ)
agi_free agi = (328, agi.free_root) ∷ (332, agi.free_level) ∷ (336, agi.iblocks) ∷ (340, agi.fblocks) ∷ []

abbrev pub agi_table : Agi → List (ℕ × ℕ)
agi_table agi = head_ids agi_form agi.seqno agi.length ++ agi_inodes agi ++ agi_free agi

-- an AGI's sector with these fields and their checksum, and every other byte as it was
unfoldable pub agi_written : Agi → List ℕ → List ℕ
agi_written agi old = stamped agi_form agi.uuid agi.lsn (with_numbers 64 (with_table (agi_table agi) old) 40 agi.unlinked)
