-- An AGFL that was written is read again, and passes its tests.
use Rattle.std.proofs.Common.{sym, ◌≡◌, ℕ, ◌^◌, ◌<◌, inl, inr, true, List, None, length, refl, ap, ◌∙◌, arith, lit≤}
use Rattle.std.specs.Prelude.{slice_index, Result, Ok, Err, MatchResult, IfOk}
use Rattle.ag_headers.specs.declared.fault.HeadFault.{HeadFault}
use Rattle.std.specs.List.{flat_map}
use Rattle.std.proofs.lemmas.Bool.{eq-eqb}
use Rattle.byteorder.specs.Endian.{big_bytes}
use Rattle.byte_fields.specs.Checksum.{has_sum}
use Rattle.byte_fields.specs.Fields.{field}
use Rattle.geom.specs.Layout.{Layout, group_len_of}
use Rattle.ag_headers.specs.Agf.{agf_in}
use Rattle.ag_headers.specs.Agfl.{agfl_form, agfl_fault, agfl_of, agfl_table, agfl_written, own_fault, own_tests, ring_in, IsListOf, StatesRing, NamesRing}
use Rattle.ag_headers.specs.Fields.{sector, uuid_at, numbers_in, numbers_at, with_numbers, with_table, stamped, AllFit}
use Rattle.ag_headers.specs.Ring.{FreeRing, IsRing}
use Rattle.ag_headers.proofs.AgflLemmas.{ring_fault_next, ring_passes, ring_test, tests_from_free_list}
use Rattle.byte_fields.proofs.TestLemmas.{none_fails}
use Rattle.ag_headers.proofs.HeadLemmas.{is_uuid}
use Rattle.ag_headers.proofs.NumberLemmas.{length_of_row, row_again}
use Rattle.ag_headers.proofs.SpliceLemmas.{Written, splice_length, part_there}
use Rattle.ag_headers.proofs.StampLemmas.{Laid, stamped_part, stamped_uuid, stamped_lsn}
use Rattle.ag_headers.proofs.TableLemmas.{AllRead, table_length, table_reads, reads_stay, stamped_reads}

laid : Laid agfl_form
laid = record { uuid_first = lit≤ tt; uuid_before_sum = lit≤ tt; apart = inl (lit≤ tt); lsn_inside = lit≤ tt; sum_inside = lit≤ tt }

-- the fields of an AGFL, in the ranges of their types
pub record Fits (ring : FreeRing) : Type 0 where
  pub sixteen : length ring.uuid ≡ 16
  pub table : AllFit (agfl_table ring)
  pub places : length ring.numbers ≡ 119
  pub blocks : (k : ℕ) → slice_index ring.numbers k < 2 ^ 32
  pub lsn : ring.lsn < 2 ^ 64

module _ (ring : FreeRing) (old : List ℕ) (whole : length old ≡ 512) (fits : Fits ring) where
  table : List ℕ
  table = with_table (agfl_table ring) old

  row : List ℕ
  row = with_numbers 119 table 36 ring.numbers

  table_whole : length table ≡ 512
  unfolding table
  table_whole = table_length (agfl_table ring) 0 old refl whole

  written : Written table 36 512 (flat_map (big_bytes 4) ring.numbers)
  written = record { order = lit≤ tt; inside = omega (arith, table_whole); exact = length_of_row ring.numbers ∙ omega (arith, fits.places) }

  row_whole : length row ≡ 512
  unfolding row
  row_whole = splice_length table 36 512 (flat_map (big_bytes 4) ring.numbers) written ∙ table_whole

  is_stamped : agfl_written ring old ≡ stamped agfl_form ring.uuid ring.lsn row
  unfolding agfl_written table row
  is_stamped = refl

  reads : AllRead (agfl_table ring) (agfl_written ring old)
  unfolding agfl_written table row
  reads =
      stamped_reads agfl_form ring.uuid ring.lsn row laid fits.sixteen row_whole (agfl_table ring) refl refl refl
      (reads_stay (agfl_table ring) table 36 512 (flat_map (big_bytes 4) ring.numbers) written refl
      (table_reads (agfl_table ring) 0 old refl fits.table whole))

  numbers : numbers_at 119 (agfl_written ring old) 36 ≡ ring.numbers
  unfolding row
  numbers =
      ap (λ (b : List ℕ). numbers_at 119 b 36) is_stamped
      ∙ (ap (numbers_in 119) (stamped_part agfl_form ring.uuid ring.lsn row laid fits.sixteen row_whole 36 476 (inr (lit≤ tt)) (inr (lit≤ tt)) (inr (lit≤ tt)) ∙ part_there table 36 512 (flat_map (big_bytes 4) ring.numbers) written 476 refl)
      ∙ row_again 119 ring.numbers fits.places fits.blocks)

  uuid : uuid_at (agfl_written ring old) 8 ≡ ring.uuid
  uuid = ap (λ (b : List ℕ). uuid_at b 8) is_stamped ∙ stamped_uuid agfl_form ring.uuid ring.lsn row laid fits.sixteen row_whole

  lsn : field 8 (agfl_written ring old) 24 ≡ ring.lsn
  lsn = ap (λ (b : List ℕ). field 8 b 24) is_stamped ∙ stamped_lsn agfl_form ring.uuid ring.lsn row laid fits.sixteen row_whole fits.lsn

read_from : (ring : FreeRing) (agf xs : List ℕ) → StatesRing agf ring → AllRead (agfl_table ring) xs → uuid_at xs 8 ≡ ring.uuid → field 8 xs 24 ≡ ring.lsn → numbers_at 119 xs 36 ≡ ring.numbers → ring_in agf xs ≡ ring
unfolding ring_in
read_from ring agf xs states r uuid lsn numbers = rw (r.1.0, uuid, lsn, numbers, states.first, states.last, states.count) refl

pub ring_again : (ring : FreeRing) (old xs : List ℕ) → xs ≡ agfl_written ring old → length old ≡ 512 → Fits ring → (agf : List ℕ) → StatesRing agf ring → ring_in agf xs ≡ ring
ring_again ring old xs is whole fits agf states =
    ap (ring_in agf) is
    ∙ read_from ring agf (agfl_written ring old) states (reads ring old whole fits) (uuid ring old whole fits) (lsn ring old whole fits) (numbers ring old whole fits)

-- a sector with an AGFL and its checksum passes its own tests wherever the AGFL names the group
pub own_accepted : (ring : FreeRing) (old xs : List ℕ) → xs ≡ agfl_written ring old → length old ≡ 512 → Fits ring → has_sum xs 32 ≡ true
    → (at : Layout) (g : ℕ) → ring.seqno ≡ g → ring.uuid ≡ at.uuid → own_fault at g xs ≡ None
unfolding own_fault
own_accepted ring old xs is whole fits summed at g group image =
    let r = reads ring old whole fits in
    let magic = ap (λ (b : List ℕ). field 4 b 0) is ∙ r.0 in
    let seqno = ap (λ (b : List ℕ). field 4 b 4) is ∙ (r.1.0 ∙ group) in
    let of_image = ap (λ (b : List ℕ). uuid_at b 8) is ∙ (uuid ring old whole fits ∙ image) in
    none_fails (own_tests at g xs) (eq-eqb _ _ magic, (eq-eqb _ _ seqno, (summed, (is_uuid xs 8 at.uuid of_image, tt))))

pub states_ring : (agf : List ℕ) (ring : FreeRing) → NamesRing (agf_in agf) ring → StatesRing agf ring
unfolding agf_in
states_ring agf ring names = record { first = names.first; last = names.last; count = names.count }

-- and the tests with its AGF
pub list_accepted : (at : Layout) (g : ℕ) (block : List ℕ) (ring : FreeRing) → own_fault at g (sector 3 block) ≡ None → agfl_of block ≡ ring → IsRing ring.first ring.last ring.count → IsListOf at g ring → agfl_fault at g block ≡ None
list_accepted at g block ring own is places list =
    ring_fault_next at g block own
    ∙ rw is (ring_passes (group_len_of at g) ring (ring_test ring.first ring.last ring.count places) ∙ tests_from_free_list (group_len_of at g) ring list.blocks)

-- the AGF that was read with an AGFL names its ring
pub ok_is_named : (r : Result FreeRing HeadFault) (agf agfl : List ℕ) (passed : FreeRing → Type 0) (failed : HeadFault → Type 0) → MatchResult r (λ list. passed list × (list ≡ ring_in agf agfl)) failed → IfOk r (λ list. NamesRing (agf_in agf) list)
unfolding agf_in ring_in
ok_is_named (Ok list) agf agfl passed failed h =
    let is = h.1 in
    record {
      first = sym (ap (λ (r : FreeRing). r.first) is);
      last = sym (ap (λ (r : FreeRing). r.last) is);
      count = sym (ap (λ (r : FreeRing). r.count) is);
    }
ok_is_named (Err fault) agf agfl passed failed h = tt
