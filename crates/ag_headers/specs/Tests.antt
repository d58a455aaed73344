-- What an AGF and an AGI have in common: their first numbers, and their tests.
use Rattle.std.specs.Prelude.{◌≡◌, ℕ, ◌==◌, Bool, List, [], ◌∷◌, Option}
use Rattle.byte_fields.specs.Checksum.{has_sum}
use Rattle.byte_fields.specs.Fields.{field, has_uuid}
use Rattle.byte_fields.specs.FirstFailing.{first_failing}
use Rattle.geom.specs.Layout.{Layout, group_len_of}
use Rattle.ag_headers.specs.declared.fault.HeadFault.{HeadFault}
use Rattle.ag_headers.specs.declared.fault.HeadFault.TheVariants.{Magic, Version, Seqno, Length, Checksum, Uuid}
use Rattle.ag_headers.specs.declared.head.Form.{Form}

-- the places of the numbers that tell which head it is: magic number, version, group, and the group's blocks
abbrev pub head_ids : Form → ℕ → ℕ → List (ℕ × ℕ)
head_ids form seqno length = (0, form.magic) ∷ (4, 1) ∷ (8, seqno) ∷ (12, length) ∷ []

-- the tests of group g's AGF or AGI, in their order
abbrev pub head_tests : Form → Layout → ℕ → List ℕ → List (Bool × HeadFault)
head_tests form at g head =
    (field 4 head 0 == form.magic, Magic)
    ∷ (field 4 head 4 == 1, Version)
    ∷ (field 4 head 8 == g, Seqno)
    ∷ (field 4 head 12 == group_len_of at g, Length)
    ∷ (has_sum head form.sum_at, Checksum)
    ∷ (has_uuid head form.uuid_at at.uuid, Uuid)
    ∷ []

-- the first of them that fails
unfoldable pub head_fault : Form → Layout → ℕ → List ℕ → Option HeadFault
head_fault form at g head = first_failing (head_tests form at g head)

-- an AGF or AGI with these numbers and this UUID is one of group g
pub record IsOfGroup (at : Layout) (g seqno length : ℕ) (uuid : List ℕ) : Type 0 where
  pub group : seqno ≡ g
  pub blocks : length ≡ group_len_of at g
  pub image : uuid ≡ at.uuid
