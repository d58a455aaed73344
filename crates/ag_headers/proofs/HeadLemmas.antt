-- The tests of an AGF or AGI: when they pass, and what follows.
use Rattle.std.proofs.Common.{◌≡◌, ℕ, true, List, None}
use Rattle.std.proofs.lemmas.Bool.{eq-eqb, eqb-true}
use Rattle.std.proofs.lemmas.Slice.Eq.{bytes_eq-Decides}
use Rattle.byte_fields.specs.Checksum.{has_sum}
use Rattle.byte_fields.specs.Fields.{field, has_uuid}
use Rattle.byte_fields.proofs.TestLemmas.{all_pass, none_fails}
use Rattle.geom.specs.Layout.{Layout}
use Rattle.ag_headers.specs.Fields.{uuid_at}
use Rattle.ag_headers.specs.Tests.{head_tests, head_fault, IsOfGroup}
use Rattle.ag_headers.specs.declared.head.Form.{Form}

pub uuid_is : (xs : List ℕ) (at : ℕ) (uuid : List ℕ) → has_uuid xs at uuid ≡ true → uuid_at xs at ≡ uuid
unfolding has_uuid
uuid_is xs at uuid h = (bytes_eq-Decides (uuid_at xs at) uuid).0 h

pub is_uuid : (xs : List ℕ) (at : ℕ) (uuid : List ℕ) → uuid_at xs at ≡ uuid → has_uuid xs at uuid ≡ true
unfolding has_uuid
is_uuid xs at uuid h = (bytes_eq-Decides (uuid_at xs at) uuid).1 h

pub head_is_of_group : (form : Form) (at : Layout) (g : ℕ) (head : List ℕ) → head_fault form at g head ≡ None
    → IsOfGroup at g (field 4 head 8) (field 4 head 12) (uuid_at head form.uuid_at)
unfolding head_fault
head_is_of_group form at g head h =
    let all = all_pass (head_tests form at g head) h in
    record {
      group = eqb-true _ _ all.1.1.0;
      blocks = eqb-true _ _ all.1.1.1.0;
      image = uuid_is head form.uuid_at at.uuid all.1.1.1.1.1.0;
    }

pub head_passes : (form : Form) (at : Layout) (g : ℕ) (head : List ℕ) → field 4 head 0 ≡ form.magic → field 4 head 4 ≡ 1
    → IsOfGroup at g (field 4 head 8) (field 4 head 12) (uuid_at head form.uuid_at) → has_sum head form.sum_at ≡ true
    → head_fault form at g head ≡ None
unfolding head_fault
head_passes form at g head magic version of_group summed =
    none_fails (head_tests form at g head)
    (eq-eqb _ _ magic, (eq-eqb _ _ version, (eq-eqb _ _ of_group.group, (eq-eqb _ _ of_group.blocks, (summed, (is_uuid head form.uuid_at at.uuid of_group.image, tt))))))
