-- The AGFL, in sector 3: the free list that is kept for the group's own trees.
use Rattle.std.specs.Prelude.{◌≡◌, ℕ, ◌==◌, Bool, List, [], ◌∷◌, ◌++◌, map, Option}
use Rattle.std.specs.List.{range_with_len}
use Rattle.byte_fields.specs.Checksum.{has_sum}
use Rattle.byte_fields.specs.Fields.{field, has_uuid}
use Rattle.byte_fields.specs.FirstFailing.{first_failing}
use Rattle.geom.specs.Layout.{Layout, group_len_of}
use Rattle.ag_headers.specs.Fields.{sector, uuid_at, numbers_at, with_numbers, with_table, stamped}
use Rattle.ag_headers.specs.Ring.{FreeRing, place_at, entries, ring_fits, entry_fits, IsFreeList}
use Rattle.ag_headers.specs.declared.agf.Agf.{Agf}
use Rattle.ag_headers.specs.declared.head.Form.{Form}
use Rattle.ag_headers.specs.declared.fault.HeadFault.{HeadFault}
use Rattle.ag_headers.specs.declared.fault.HeadFault.TheVariants.{Magic, Seqno, Checksum, Uuid, FreeList}

abbrev pub agfl_form : Form
agfl_form = record { magic = 0x5841_464c; uuid_at = 8; lsn_at = 24; sum_at = 32 }

-- the tests of group g's AGFL by itself, in their order
abbrev pub own_tests : Layout → ℕ → List ℕ → List (Bool × HeadFault)
own_tests at g agfl =
    (field 4 agfl 0 == agfl_form.magic, Magic)
    ∷ (field 4 agfl 4 == g, Seqno)
    ∷ (has_sum agfl 32, Checksum)
    ∷ (has_uuid agfl 8 at.uuid, Uuid)
    ∷ []

-- the tests of its entries in the order of the ring, each with its place
abbrev pub entry_tests : ℕ → FreeRing → List (Bool × HeadFault)
entry_tests length ring = map (λ i. (entry_fits length (entries ring) i, FreeList (place_at ring.first i))) (range_with_len 0 ring.count)

-- the tests of the AGFL with its AGF
abbrev pub ring_tests : ℕ → FreeRing → List (Bool × HeadFault)
ring_tests length ring = (ring_fits ring.first ring.last ring.count, FreeList 119) ∷ entry_tests length ring

-- what the sectors of an AGF and an AGFL state of the free list
unfoldable pub ring_in : List ℕ → List ℕ → FreeRing
ring_in agf agfl = record {
  seqno = field 4 agfl 4;
  uuid = uuid_at agfl 8;
  lsn = field 8 agfl 24;
  numbers = numbers_at 119 agfl 36;
  first = field 4 agf 40;
  last = field 4 agf 44;
  count = field 4 agf 48;
}

-- the free list in a group's block 0
abbrev pub agfl_of : List ℕ → FreeRing
agfl_of block = ring_in (sector 1 block) (sector 3 block)

-- the first of these tests that fails
unfoldable pub own_fault : Layout → ℕ → List ℕ → Option HeadFault
own_fault at g agfl = first_failing (own_tests at g agfl)

unfoldable pub entry_fault : ℕ → FreeRing → Option HeadFault
entry_fault length ring = first_failing (entry_tests length ring)

unfoldable pub ring_fault : ℕ → FreeRing → Option HeadFault
ring_fault length ring = first_failing (ring_tests length ring)

-- the first fault of the AGFL in a group's block 0
unfoldable pub agfl_fault : Layout → ℕ → List ℕ → Option HeadFault
agfl_fault at g block = first_failing (own_tests at g (sector 3 block) ++ ring_tests (group_len_of at g) (agfl_of block))

-- the free list is one of group g
pub record IsListOf (at : Layout) (g : ℕ) (ring : FreeRing) : Type 0 where
  pub group : ring.seqno ≡ g
  pub image : ring.uuid ≡ at.uuid
  pub blocks : IsFreeList (group_len_of at g) ring

-- an AGF's sector says where the ring begins and ends, and how many entries it has
pub record StatesRing (agf : List ℕ) (ring : FreeRing) : Type 0 where
  pub first : field 4 agf 40 ≡ ring.first
  pub last : field 4 agf 44 ≡ ring.last
  pub count : field 4 agf 48 ≡ ring.count

-- the AGF says where the ring begins and ends, and how many entries it has
pub record NamesRing (agf : Agf) (ring : FreeRing) : Type 0 where
  pub first : agf.flfirst ≡ ring.first
  pub last : agf.fllast ≡ ring.last
  pub count : agf.flcount ≡ ring.count

abbrev pub agfl_table : FreeRing → List (ℕ × ℕ)
agfl_table ring = (0, agfl_form.magic) ∷ (4, ring.seqno) ∷ []

-- an AGFL's sector with these fields and their checksum. It has no other bytes.
unfoldable pub agfl_written : FreeRing → List ℕ → List ℕ
agfl_written ring old = stamped agfl_form ring.uuid ring.lsn (with_numbers 119 (with_table (agfl_table ring) old) 36 ring.numbers)
