-- An AGI that was written is read again, and passes its tests.
use Rattle.std.proofs.Common.{◌≡◌, ℕ, ◌^◌, ◌<◌, inl, inr, true, List, None, length, refl, ap, ◌∙◌, arith, lit≤}
use Rattle.std.specs.Prelude.{slice_index}
use Rattle.std.specs.List.{flat_map}
use Rattle.byteorder.specs.Endian.{big_bytes}
use Rattle.byte_fields.specs.Checksum.{has_sum}
use Rattle.byte_fields.specs.Fields.{field}
use Rattle.geom.specs.Layout.{Layout}
use Rattle.ag_headers.specs.Agi.{agi_form, agi_in, agi_table, agi_written}
use Rattle.ag_headers.specs.Fields.{uuid_at, numbers_in, numbers_at, with_numbers, with_table, stamped, AllFit}
use Rattle.ag_headers.specs.Tests.{head_fault, IsOfGroup}
use Rattle.ag_headers.specs.declared.agi.Agi.{Agi}
use Rattle.ag_headers.proofs.HeadLemmas.{head_passes, head_is_of_group}
use Rattle.ag_headers.proofs.NumberLemmas.{length_of_row, row_again}
use Rattle.ag_headers.proofs.SpliceLemmas.{Written, splice_length, part_there}
use Rattle.ag_headers.proofs.StampLemmas.{Laid, stamped_part, stamped_uuid, stamped_lsn}
use Rattle.ag_headers.proofs.TableLemmas.{AllRead, table_length, table_reads, reads_stay, stamped_reads}

laid : Laid agi_form
laid = record { uuid_first = lit≤ tt; uuid_before_sum = lit≤ tt; apart = inr (lit≤ tt); lsn_inside = lit≤ tt; sum_inside = lit≤ tt }

-- the fields of an AGI, in the ranges of their types
pub record Fits (agi : Agi) : Type 0 where
  pub sixteen : length agi.uuid ≡ 16
  pub table : AllFit (agi_table agi)
  pub lists : length agi.unlinked ≡ 64
  pub inodes : (k : ℕ) → slice_index agi.unlinked k < 2 ^ 32
  pub lsn : agi.lsn < 2 ^ 64

module _ (agi : Agi) (old : List ℕ) (whole : length old ≡ 512) (fits : Fits agi) where
  table : List ℕ
  table = with_table (agi_table agi) old

  lists : List ℕ
  lists = with_numbers 64 table 40 agi.unlinked

  table_whole : length table ≡ 512
  unfolding table
  table_whole = table_length (agi_table agi) 0 old refl whole

  written : Written table 40 296 (flat_map (big_bytes 4) agi.unlinked)
  written = record { order = lit≤ tt; inside = omega (arith, table_whole); exact = length_of_row agi.unlinked ∙ omega (arith, fits.lists) }

  lists_whole : length lists ≡ 512
  unfolding lists
  lists_whole = splice_length table 40 296 (flat_map (big_bytes 4) agi.unlinked) written ∙ table_whole

  is_stamped : agi_written agi old ≡ stamped agi_form agi.uuid agi.lsn lists
  unfolding agi_written table lists
  is_stamped = refl

  reads : AllRead (agi_table agi) (agi_written agi old)
  unfolding agi_written table lists
  reads =
      stamped_reads agi_form agi.uuid agi.lsn lists laid fits.sixteen lists_whole (agi_table agi) refl refl refl
      (reads_stay (agi_table agi) table 40 296 (flat_map (big_bytes 4) agi.unlinked) written refl
      (table_reads (agi_table agi) 0 old refl fits.table whole))

  unlinked : numbers_at 64 (agi_written agi old) 40 ≡ agi.unlinked
  unfolding lists
  unlinked =
      ap (λ (b : List ℕ). numbers_at 64 b 40) is_stamped
      ∙ (ap (numbers_in 64) (stamped_part agi_form agi.uuid agi.lsn lists laid fits.sixteen lists_whole 40 256 (inl (lit≤ tt)) (inl (lit≤ tt)) (inl (lit≤ tt)) ∙ part_there table 40 296 (flat_map (big_bytes 4) agi.unlinked) written 256 refl)
      ∙ row_again 64 agi.unlinked fits.lists fits.inodes)

  uuid : uuid_at (agi_written agi old) 296 ≡ agi.uuid
  uuid = ap (λ (b : List ℕ). uuid_at b 296) is_stamped ∙ stamped_uuid agi_form agi.uuid agi.lsn lists laid fits.sixteen lists_whole

  lsn : field 8 (agi_written agi old) 320 ≡ agi.lsn
  lsn = ap (λ (b : List ℕ). field 8 b 320) is_stamped ∙ stamped_lsn agi_form agi.uuid agi.lsn lists laid fits.sixteen lists_whole fits.lsn

-- an AGI whose fields stand in a sector
read_from : (agi : Agi) (xs : List ℕ) → AllRead (agi_table agi) xs → numbers_at 64 xs 40 ≡ agi.unlinked → uuid_at xs 296 ≡ agi.uuid → field 8 xs 320 ≡ agi.lsn → agi_in xs ≡ agi
unfolding agi_in
read_from agi xs r unlinked uuid lsn =
    let a = r.1.1 in
    let b = a.1.1 in
    let c = b.1.1.1.1.1.1 in
    rw (
      a.0,
      a.1.0,
      b.0,
      b.1.0,
      b.1.1.0,
      b.1.1.1.0,
      b.1.1.1.1.0,
      b.1.1.1.1.1.0,
      unlinked,
      uuid,
      lsn,
      c.0,
      c.1.0,
      c.1.1.0,
      c.1.1.1.0,
    ) refl

pub agi_again : (agi : Agi) (old : List ℕ) → length old ≡ 512 → Fits agi → agi_in (agi_written agi old) ≡ agi
agi_again agi old whole fits =
    read_from agi (agi_written agi old) (reads agi old whole fits) (unlinked agi old whole fits) (uuid agi old whole fits) (lsn agi old whole fits)

-- a sector with an AGI and its checksum passes the tests wherever the AGI names the group
pub agi_accepted : (agi : Agi) (old xs : List ℕ) → xs ≡ agi_written agi old → length old ≡ 512 → Fits agi → has_sum xs 312 ≡ true
    → (at : Layout) (g : ℕ) → IsOfGroup at g agi.seqno agi.length agi.uuid → head_fault agi_form at g xs ≡ None
unfolding agi_in
agi_accepted agi old xs is whole fits summed at g of_group =
    let r = reads agi old whole fits in
    let again : agi_in xs ≡ agi = ap agi_in is ∙ agi_again agi old whole fits in
    head_passes agi_form at g xs (ap (λ (b : List ℕ). field 4 b 0) is ∙ r.0) (ap (λ (b : List ℕ). field 4 b 4) is ∙ r.1.0)
    (record { group = ap (λ (a : Agi). a.seqno) again ∙ of_group.group; blocks = ap (λ (a : Agi). a.length) again ∙ of_group.blocks; image = ap (λ (a : Agi). a.uuid) again ∙ of_group.image })
    summed

pub agi_is_of_group : (at : Layout) (g : ℕ) (agi : Agi) (xs : List ℕ) → head_fault agi_form at g xs ≡ None → agi ≡ agi_in xs → IsOfGroup at g agi.seqno agi.length agi.uuid
unfolding agi_in
agi_is_of_group at g agi xs passed is =
    let h = head_is_of_group agi_form at g xs passed in
    record { group = ap (λ (a : Agi). a.seqno) is ∙ h.group; blocks = ap (λ (a : Agi). a.length) is ∙ h.blocks; image = ap (λ (a : Agi). a.uuid) is ∙ h.image }
