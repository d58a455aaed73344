-- An AGF that was written is read again, and passes its tests.
use Rattle.std.proofs.Common.{◌≡◌, ℕ, ◌^◌, ◌<◌, inl, true, List, None, length, refl, ap, ◌∙◌, lit≤}
use Rattle.byte_fields.specs.Checksum.{has_sum}
use Rattle.byte_fields.specs.Fields.{field}
use Rattle.geom.specs.Layout.{Layout}
use Rattle.ag_headers.specs.Agf.{agf_form, agf_in, agf_table, agf_written}
use Rattle.ag_headers.specs.Fields.{uuid_at, with_table, AllFit}
use Rattle.ag_headers.specs.Tests.{head_fault, IsOfGroup}
use Rattle.ag_headers.specs.declared.agf.Agf.{Agf}
use Rattle.ag_headers.proofs.HeadLemmas.{head_passes, head_is_of_group}
use Rattle.ag_headers.proofs.StampLemmas.{Laid, stamped_uuid, stamped_lsn}
use Rattle.ag_headers.proofs.TableLemmas.{AllRead, table_length, table_reads, stamped_reads}

laid : Laid agf_form
laid = record { uuid_first = lit≤ tt; uuid_before_sum = lit≤ tt; apart = inl (lit≤ tt); lsn_inside = lit≤ tt; sum_inside = lit≤ tt }

reads : (agf : Agf) (old : List ℕ) → length old ≡ 512 → length agf.uuid ≡ 16 → AllFit (agf_table agf) → AllRead (agf_table agf) (agf_written agf old)
unfolding agf_written
reads agf old whole sixteen fit =
    stamped_reads agf_form agf.uuid agf.lsn (with_table (agf_table agf) old) laid sixteen (table_length (agf_table agf) 0 old refl whole) (agf_table agf) refl refl refl
    (table_reads (agf_table agf) 0 old refl fit whole)

-- an AGF whose fields stand in a sector
read_from : (agf : Agf) (xs : List ℕ) → AllRead (agf_table agf) xs → uuid_at xs 64 ≡ agf.uuid → field 8 xs 208 ≡ agf.lsn → agf_in xs ≡ agf
unfolding agf_in
read_from agf xs r uuid lsn =
    let a = r.1.1 in
    let b = a.1.1 in
    let c = b.1.1.1.1.1.1 in
    let d = c.1.1.1.1.1.1 in
    rw (
      a.0,
      a.1.0,
      b.0,
      b.1.0,
      b.1.1.0,
      b.1.1.1.0,
      b.1.1.1.1.0,
      b.1.1.1.1.1.0,
      c.0,
      c.1.0,
      c.1.1.0,
      c.1.1.1.0,
      c.1.1.1.1.0,
      c.1.1.1.1.1.0,
      uuid,
      d.0,
      d.1.0,
      d.1.1.0,
      d.1.1.1.0,
      lsn,
    ) refl

pub agf_again : (agf : Agf) (old : List ℕ) → length old ≡ 512 → length agf.uuid ≡ 16 → AllFit (agf_table agf) → agf.lsn < 2 ^ 64 → agf_in (agf_written agf old) ≡ agf
unfolding agf_written
agf_again agf old whole sixteen fit lsn =
    let table = table_length (agf_table agf) 0 old refl whole in
    read_from agf (agf_written agf old) (reads agf old whole sixteen fit)
    (stamped_uuid agf_form agf.uuid agf.lsn (with_table (agf_table agf) old) laid sixteen table)
    (stamped_lsn agf_form agf.uuid agf.lsn (with_table (agf_table agf) old) laid sixteen table lsn)

-- a sector with an AGF and its checksum passes the tests wherever the AGF names the group
pub agf_accepted : (agf : Agf) (old xs : List ℕ) → xs ≡ agf_written agf old → length old ≡ 512 → length agf.uuid ≡ 16 → AllFit (agf_table agf) → agf.lsn < 2 ^ 64 → has_sum xs 216 ≡ true
    → (at : Layout) (g : ℕ) → IsOfGroup at g agf.seqno agf.length agf.uuid → head_fault agf_form at g xs ≡ None
unfolding agf_in
agf_accepted agf old xs is whole sixteen fit lsn summed at g of_group =
    let r = reads agf old whole sixteen fit in
    let again : agf_in xs ≡ agf = ap agf_in is ∙ agf_again agf old whole sixteen fit lsn in
    head_passes agf_form at g xs (ap (λ (b : List ℕ). field 4 b 0) is ∙ r.0) (ap (λ (b : List ℕ). field 4 b 4) is ∙ r.1.0)
    (record { group = ap (λ (a : Agf). a.seqno) again ∙ of_group.group; blocks = ap (λ (a : Agf). a.length) again ∙ of_group.blocks; image = ap (λ (a : Agf). a.uuid) again ∙ of_group.image })
    summed

pub agf_is_of_group : (at : Layout) (g : ℕ) (agf : Agf) (xs : List ℕ) → head_fault agf_form at g xs ≡ None → agf ≡ agf_in xs → IsOfGroup at g agf.seqno agf.length agf.uuid
unfolding agf_in
agf_is_of_group at g agf xs passed is =
    let h = head_is_of_group agf_form at g xs passed in
    record { group = ap (λ (a : Agf). a.seqno) is ∙ h.group; blocks = ap (λ (a : Agf). a.length) is ∙ h.blocks; image = ap (λ (a : Agf). a.uuid) is ∙ h.image }
