-- Numbers of four bytes that a table puts into a sector, and how they are read again.
use Rattle.std.proofs.Common.{◌≡◌, ℕ, ◌+◌, ◌≤◌, ◌⊎◌, inl, inr, Bool, true, List, [], ◌∷◌, ◌++◌, length, refl, ◌∙◌, arith}
use Rattle.std.specs.Prelude.{⊤, nat_le, ◌&&◌, ◌||◌}
use Rattle.std.proofs.lemmas.Bool.{leb-true, and_parts, or_cases}
use Rattle.std.specs.List.{splice}
use Rattle.byteorder.specs.Endian.{big_bytes}
use Rattle.byteorder.specs.Numbers.{length-bytes_high_first}
use Rattle.byte_fields.specs.Fields.{field, with_field}
use Rattle.ag_headers.specs.Fields.{with_table, AllFit, stamped}
use Rattle.ag_headers.specs.declared.head.Form.{Form}
use Rattle.ag_headers.proofs.SpliceLemmas.{Written, splice_length, field_there, field_stays}
use Rattle.ag_headers.proofs.StampLemmas.{Laid, stamped_field}

-- the rows stand one behind the other, from place e on, in 512 bytes
abbrev pub ascends : ℕ → List (ℕ × ℕ) → Bool
ascends e [] = nat_le e 512
ascends e (row ∷ rows) = nat_le e row.0 && ascends (row.0 + 4) rows

-- each row's number stands at its place
abbrev pub AllRead : List (ℕ × ℕ) → List ℕ → Type 0
AllRead [] xs = ⊤
AllRead (row ∷ rows) xs = (field 4 xs row.0 ≡ row.1) × AllRead rows xs

-- no row has a byte from a on, below e
abbrev pub is_clear : ℕ → ℕ → List (ℕ × ℕ) → Bool
is_clear a e [] = true
is_clear a e (row ∷ rows) = (nat_le (row.0 + 4) a || nat_le e row.0) && is_clear a e rows

pub fits_append : (rows more : List (ℕ × ℕ)) → AllFit rows → AllFit more → AllFit (rows ++ more)
fits_append [] more f g = g
fits_append (row ∷ rows) more f g = (f.0, fits_append rows more f.1 g)

four_written : (xs : List ℕ) (at value : ℕ) → at + 4 ≤ length xs → Written xs at (at + 4) (big_bytes 4 value)
four_written xs at value room = record { order = omega arith; inside = room; exact = length-bytes_high_first 4 value ∙ omega arith }

-- rows that ascend from e on end within the sector
room : (rows : List (ℕ × ℕ)) (e : ℕ) → ascends e rows ≡ true → e ≤ 512
room [] e up = leb-true e 512 up
room (row ∷ rows) e up =
    let parts = and_parts (nat_le e row.0) (ascends (row.0 + 4) rows) up in
    let here = leb-true e row.0 parts.0 in
    let next = room rows (row.0 + 4) parts.1 in
    omega arith

put_length : (xs : List ℕ) (at value : ℕ) → at + 4 ≤ 512 → length xs ≡ 512 → length (with_field 4 xs at value) ≡ 512
put_length xs at value inside whole = splice_length xs at (at + 4) (big_bytes 4 value) (four_written xs at value (omega arith)) ∙ whole

pub table_length : (rows : List (ℕ × ℕ)) (e : ℕ) (xs : List ℕ) → ascends e rows ≡ true → length xs ≡ 512 → length (with_table rows xs) ≡ 512
table_length [] e xs up whole = whole
table_length (row ∷ rows) e xs up whole =
    let parts = and_parts (nat_le e row.0) (ascends (row.0 + 4) rows) up in
    let next = room rows (row.0 + 4) parts.1 in
    table_length rows (row.0 + 4) (with_field 4 xs row.0 row.1) parts.1 (put_length xs row.0 row.1 next whole)

-- before the rows nothing changes
table_keeps : (rows : List (ℕ × ℕ)) (e : ℕ) (xs : List ℕ) → ascends e rows ≡ true → length xs ≡ 512 → (at : ℕ) → at + 4 ≤ e → field 4 (with_table rows xs) at ≡ field 4 xs at
table_keeps [] e xs up whole at before = refl
table_keeps (row ∷ rows) e xs up whole at before =
    let parts = and_parts (nat_le e row.0) (ascends (row.0 + 4) rows) up in
    let here = leb-true e row.0 parts.0 in
    let next = room rows (row.0 + 4) parts.1 in
    table_keeps rows (row.0 + 4) (with_field 4 xs row.0 row.1) parts.1 (put_length xs row.0 row.1 next whole) at (omega arith)
    ∙ field_stays xs row.0 (row.0 + 4) (big_bytes 4 row.1) (four_written xs row.0 row.1 (omega arith)) 4 at (inl (omega arith))

pub table_reads : (rows : List (ℕ × ℕ)) (e : ℕ) (xs : List ℕ) → ascends e rows ≡ true → AllFit rows → length xs ≡ 512 → AllRead rows (with_table rows xs)
table_reads [] e xs up fit whole = tt
table_reads (row ∷ rows) e xs up fit whole =
    let parts = and_parts (nat_le e row.0) (ascends (row.0 + 4) rows) up in
    let next = room rows (row.0 + 4) parts.1 in
    let now = with_field 4 xs row.0 row.1 in
    let now_whole = put_length xs row.0 row.1 next whole in (
      table_keeps rows (row.0 + 4) now parts.1 now_whole row.0 (omega arith) ∙ field_there 4 xs row.0 row.1 (omega arith) fit.0,
      table_reads rows (row.0 + 4) now parts.1 fit.1 now_whole,
    )

beside : (at a e : ℕ) → (nat_le (at + 4) a || nat_le e at) ≡ true → (at + 4 ≤ a) ⊎ (e ≤ at)
beside at a e h =
    elim (or_cases (nat_le (at + 4) a) (nat_le e at) h) [
      | inl before ↦ inl (leb-true (at + 4) a before)
      | inr behind ↦ inr (leb-true e at behind)
    ]

-- what is written elsewhere leaves the rows
pub reads_stay : (rows : List (ℕ × ℕ)) (xs : List ℕ) (a e : ℕ) (new : List ℕ) → Written xs a e new → is_clear a e rows ≡ true → AllRead rows xs → AllRead rows (splice xs a e new)
reads_stay [] xs a e new w clear reads = tt
reads_stay (row ∷ rows) xs a e new w clear reads =
    let parts = and_parts (nat_le (row.0 + 4) a || nat_le e row.0) (is_clear a e rows) clear in
    (field_stays xs a e new w 4 row.0 (beside row.0 a e parts.0) ∙ reads.0, reads_stay rows xs a e new w parts.1 reads.1)

-- and so do a head's three stamps
pub stamped_reads : (form : Form) (uuid : List ℕ) (lsn : ℕ) (xs : List ℕ) → Laid form → length uuid ≡ 16 → length xs ≡ 512
    → (rows : List (ℕ × ℕ)) → is_clear form.uuid_at (form.uuid_at + 16) rows ≡ true → is_clear form.lsn_at (form.lsn_at + 8) rows ≡ true → is_clear form.sum_at (form.sum_at + 4) rows ≡ true
    → AllRead rows xs → AllRead rows (stamped form uuid lsn xs)
stamped_reads form uuid lsn xs laid sixteen whole [] u l s reads = tt
stamped_reads form uuid lsn xs laid sixteen whole (row ∷ rows) u l s reads =
    let pu = and_parts (nat_le (row.0 + 4) form.uuid_at || nat_le (form.uuid_at + 16) row.0) (is_clear form.uuid_at (form.uuid_at + 16) rows) u in
    let pl = and_parts (nat_le (row.0 + 4) form.lsn_at || nat_le (form.lsn_at + 8) row.0) (is_clear form.lsn_at (form.lsn_at + 8) rows) l in
    let ps = and_parts (nat_le (row.0 + 4) form.sum_at || nat_le (form.sum_at + 4) row.0) (is_clear form.sum_at (form.sum_at + 4) rows) s in (
      stamped_field form uuid lsn xs laid sixteen whole row.0 4 (beside row.0 form.uuid_at (form.uuid_at + 16) pu.0) (beside row.0 form.lsn_at (form.lsn_at + 8) pl.0) (beside row.0 form.sum_at (form.sum_at + 4) ps.0) ∙ reads.0,
      stamped_reads form uuid lsn xs laid sixteen whole rows pu.1 pl.1 ps.1 reads.1,
    )
