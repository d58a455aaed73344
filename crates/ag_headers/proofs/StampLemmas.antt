-- What a head's sector holds once its UUID, its log sequence number and its checksum were put.
use Rattle.std.proofs.Common.{◌≡◌, ℕ, ◌+◌, ◌^◌, ◌<◌, ◌≤◌, ◌⊎◌, inl, true, List, length, take, drop, refl, sym, ap, ◌∙◌, arith}
use Rattle.std.proofs.lemmas.Bool.{eq-eqb}
use Rattle.std.specs.List.{splice}
use Rattle.byteorder.specs.Endian.{big_bytes, little_bytes, big_from}
use Rattle.byteorder.specs.Numbers.{length-bytes_high_first, length-bytes_low_first}
use Rattle.byte_fields.specs.Checksum.{checksum, blanked, has_sum}
use Rattle.byte_fields.specs.Fields.{field, with_field}
use Rattle.ag_headers.specs.Fields.{uuid_at, with_uuid, with_sum, stamped}
use Rattle.ag_headers.specs.declared.head.Form.{Form}
use Rattle.ag_headers.proofs.SpliceLemmas.{Written, splice_length, front_stays, back_stays, part_there, part_stays, field_of_part, field_there, field_stays, low_field_there}

low_written : (xs : List ℕ) (at sum : ℕ) → at + 4 ≤ length xs → Written xs at (at + 4) (little_bytes 4 sum)
low_written xs at sum room = record { order = omega arith; inside = room; exact = length-bytes_low_first 0 4 sum ∙ omega arith }

blank_again : (xs : List ℕ) (at sum : ℕ) → at + 4 ≤ length xs → blanked (splice xs at (at + 4) (little_bytes 4 sum)) at ≡ blanked xs at
unfolding blanked
blank_again xs at sum room =
    let w = low_written xs at sum room in
    let front = front_stays xs at (at + 4) (little_bytes 4 sum) w at (omega arith) in
    let back = back_stays xs at (at + 4) (little_bytes 4 sum) w (at + 4) (omega arith) in
    rw (front, back) refl

-- the checksum doesn't cover its own bytes, so that it is still right once it stands there
pub sum_holds : (xs : List ℕ) (at sum : ℕ) → at + 4 ≤ length xs → sum < 2 ^ 32 → sum ≡ checksum (blanked xs at) → has_sum (splice xs at (at + 4) (little_bytes 4 sum)) at ≡ true
unfolding has_sum
sum_holds xs at sum room fits is =
    eq-eqb _ _ (low_field_there 4 xs at sum room fits ∙ (is ∙ ap checksum (sym (blank_again xs at sum room))))

-- the places of a head's three stamps: the UUID before the other two, and these apart
pub record Laid (form : Form) : Type 0 where
  pub uuid_first : form.uuid_at + 16 ≤ form.lsn_at
  pub uuid_before_sum : form.uuid_at + 16 ≤ form.sum_at
  pub apart : (form.lsn_at + 8 ≤ form.sum_at) ⊎ (form.sum_at + 4 ≤ form.lsn_at)
  pub lsn_inside : form.lsn_at + 8 ≤ 512
  pub sum_inside : form.sum_at + 4 ≤ 512

module _ (form : Form) (uuid : List ℕ) (lsn : ℕ) (xs : List ℕ) (laid : Laid form) (sixteen : length uuid ≡ 16) (whole : length xs ≡ 512) where
  first : List ℕ
  first = with_uuid xs form.uuid_at uuid

  second : List ℕ
  second = with_field 8 first form.lsn_at lsn

  sum : ℕ
  sum = checksum (blanked second form.sum_at)

  written_first : Written xs form.uuid_at (form.uuid_at + 16) uuid
  written_first = record { order = omega arith; inside = omega (arith, laid.uuid_first, laid.lsn_inside); exact = sixteen ∙ omega arith }

  first_whole : length first ≡ 512
  unfolding first
  first_whole = splice_length xs form.uuid_at (form.uuid_at + 16) uuid written_first ∙ whole

  written_second : Written first form.lsn_at (form.lsn_at + 8) (big_bytes 8 lsn)
  written_second = record { order = omega arith; inside = omega (arith, first_whole, laid.lsn_inside); exact = length-bytes_high_first 8 lsn ∙ omega arith }

  second_whole : length second ≡ 512
  unfolding second
  second_whole = splice_length first form.lsn_at (form.lsn_at + 8) (big_bytes 8 lsn) written_second ∙ first_whole

  written_third : Written second form.sum_at (form.sum_at + 4) (little_bytes 4 sum)
  written_third = low_written second form.sum_at sum (omega (arith, second_whole, laid.sum_inside))

  is_third : stamped form uuid lsn xs ≡ splice second form.sum_at (form.sum_at + 4) (little_bytes 4 sum)
  unfolding stamped with_sum first second sum
  is_third = refl

  pub stamped_whole : length (stamped form uuid lsn xs) ≡ 512
  stamped_whole = ap length is_third ∙ (splice_length second form.sum_at (form.sum_at + 4) (little_bytes 4 sum) written_third ∙ second_whole)

  -- what stands beside the three stays
  pub stamped_part : (at n : ℕ) → (at + n ≤ form.uuid_at) ⊎ (form.uuid_at + 16 ≤ at) → (at + n ≤ form.lsn_at) ⊎ (form.lsn_at + 8 ≤ at) → (at + n ≤ form.sum_at) ⊎ (form.sum_at + 4 ≤ at) → take n (drop at (stamped form uuid lsn xs)) ≡ take n (drop at xs)
  unfolding first second
  stamped_part at n u l s =
      ap (λ (b : List ℕ). take n (drop at b)) is_third
      ∙ (part_stays second form.sum_at (form.sum_at + 4) (little_bytes 4 sum) written_third at n s
      ∙ (part_stays first form.lsn_at (form.lsn_at + 8) (big_bytes 8 lsn) written_second at n l
      ∙ part_stays xs form.uuid_at (form.uuid_at + 16) uuid written_first at n u))

  pub stamped_field : (at n : ℕ) → (at + n ≤ form.uuid_at) ⊎ (form.uuid_at + 16 ≤ at) → (at + n ≤ form.lsn_at) ⊎ (form.lsn_at + 8 ≤ at) → (at + n ≤ form.sum_at) ⊎ (form.sum_at + 4 ≤ at) → field n (stamped form uuid lsn xs) at ≡ field n xs at
  stamped_field at n u l s =
      field_of_part n (stamped form uuid lsn xs) at ∙ (ap (big_from 0 n) (stamped_part at n u l s) ∙ sym (field_of_part n xs at))

  pub stamped_uuid : uuid_at (stamped form uuid lsn xs) form.uuid_at ≡ uuid
  unfolding first second
  stamped_uuid =
      ap (λ (b : List ℕ). take 16 (drop form.uuid_at b)) is_third
      ∙ (part_stays second form.sum_at (form.sum_at + 4) (little_bytes 4 sum) written_third form.uuid_at 16 (inl laid.uuid_before_sum)
      ∙ (part_stays first form.lsn_at (form.lsn_at + 8) (big_bytes 8 lsn) written_second form.uuid_at 16 (inl laid.uuid_first)
      ∙ part_there xs form.uuid_at (form.uuid_at + 16) uuid written_first 16 (omega arith)))

  pub stamped_lsn : lsn < 2 ^ 64 → field 8 (stamped form uuid lsn xs) form.lsn_at ≡ lsn
  unfolding second
  stamped_lsn fits =
      ap (λ (b : List ℕ). field 8 b form.lsn_at) is_third
      ∙ (field_stays second form.sum_at (form.sum_at + 4) (little_bytes 4 sum) written_third 8 form.lsn_at laid.apart
      ∙ field_there 8 first form.lsn_at lsn (omega (arith, first_whole, laid.lsn_inside)) fits)
