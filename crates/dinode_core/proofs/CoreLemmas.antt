-- What a core's tests say of its fields.
use Rattle.std.proofs.Common.{◌≡◌, ℕ, List, None}
use Rattle.std.proofs.lemmas.Bool.{eqb-true}
use Rattle.std.proofs.lemmas.Slice.Eq.{bytes_eq-Decides}
use Rattle.byte_fields.specs.Fields.{has_uuid}
use Rattle.byte_fields.proofs.TestLemmas.{all_pass}
use Rattle.dinode_core.specs.Core.{core_tests, core_fault, core_of}

-- a core that passes its tests has the number and the UUID that were asked for
pub named : (bytes : List ℕ) (ino : ℕ) (uuid : List ℕ) → core_fault bytes ino uuid ≡ None → ((core_of bytes).ino ≡ ino) × ((core_of bytes).uuid ≡ uuid)
unfolding core_fault core_of has_uuid
named bytes ino uuid h =
    let all = all_pass (core_tests bytes ino uuid) h in
    let from_number = all.1.1 in
    (eqb-true _ _ from_number.0, (bytes_eq-Decides _ _).0 from_number.1.1.0)
