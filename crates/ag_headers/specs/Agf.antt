-- The AGF, in sector 1: the head of a group's free space, of its reverse mappings and of its reference counts.
use Rattle.std.specs.Prelude.{ℕ, List, [], ◌∷◌, ◌++◌, Option}
use Rattle.byte_fields.specs.Fields.{field}
use Rattle.geom.specs.Layout.{Layout}
use Rattle.ag_headers.specs.Fields.{sector, uuid_at, with_table, stamped}
use Rattle.ag_headers.specs.Tests.{head_ids, head_fault}
use Rattle.ag_headers.specs.declared.agf.Agf.{Agf}
use Rattle.ag_headers.specs.declared.head.Form.{Form}
use Rattle.ag_headers.specs.declared.fault.HeadFault.{HeadFault}

abbrev pub agf_form : Form
agf_form = record { magic = 0x5841_4746; uuid_at = 64; lsn_at = 208; sum_at = 216 }

-- the first fault of the AGF in a group's block 0
abbrev pub agf_fault : Layout → ℕ → List ℕ → Option HeadFault
agf_fault at g block = head_fault agf_form at g (sector 1 block)

-- what an AGF's sector states
unfoldable pub agf_in : List ℕ → Agf
agf_in agf = record {
  seqno = field 4 agf 8;
  length = field 4 agf 12;
  bno_root = field 4 agf 16;
  cnt_root = field 4 agf 20;
  rmap_root = field 4 agf 24;
  bno_level = field 4 agf 28;
  cnt_level = field 4 agf 32;
  rmap_level = field 4 agf 36;
  flfirst = field 4 agf 40;
  fllast = field 4 agf 44;
  flcount = field 4 agf 48;
  freeblks = field 4 agf 52;
  longest = field 4 agf 56;
  btreeblks = field 4 agf 60;
  uuid = uuid_at agf 64;
  rmap_blocks = field 4 agf 80;
  refcount_blocks = field 4 agf 84;
  refcount_root = field 4 agf 88;
  refcount_level = field 4 agf 92;
  lsn = field 8 agf 208;
}

-- the AGF in a group's block 0
abbrev pub agf_of : List ℕ → Agf
agf_of block = agf_in (sector 1 block)

-- the places of an AGF's numbers of four bytes: the trees' roots and levels, free space, and the trees' blocks
abbrev pub agf_trees : Agf → List (ℕ × ℕ)
agf_trees agf =
    (16, agf.bno_root) ∷ (20, agf.cnt_root) ∷ (24, agf.rmap_root) ∷ (28, agf.bno_level) ∷ (32, agf.cnt_level) ∷ (36, agf.rmap_level) ∷ []

abbrev pub agf_space : Agf → List (ℕ × ℕ)
agf_space agf =
    (40, agf.flfirst) ∷ (44, agf.fllast) ∷ (48, agf.flcount) ∷ (52, agf.freeblks) ∷ (56, agf.longest) ∷ (60, agf.btreeblks) ∷ []

abbrev pub agf_blocks : Agf → List (ℕ × ℕ)
agf_blocks agf = (80, agf.rmap_blocks) ∷ (84, agf.refcount_blocks) ∷ (88, agf.refcount_root) ∷ (92, agf.refcount_level) ∷ []

abbrev pub agf_table : Agf → List (ℕ × ℕ)
agf_table agf = head_ids agf_form agf.seqno agf.length ++ agf_trees agf ++ agf_space agf ++ agf_blocks agf

-- an AGF's sector with these fields and their checksum, and every other byte as it was
unfoldable pub agf_written : Agf → List ℕ → List ℕ
agf_written agf old = stamped agf_form agf.uuid agf.lsn (with_table (agf_table agf) old)
