-- A number that is written is read again, and what stands beside it is read as before.
use Rattle.std.proofs.Common.{◌≡◌, ◌≢◌, ℕ, ◌+◌, ◌*◌, ◌^◌, ◌<◌, ◌≤◌, true, false, List, length, refl, sym, inl, inr, arith}
use Rattle.std.specs.Prelude.{nat_lt, ◌⊎◌}
use Rattle.std.proofs.lemmas.Bool.{cases_lt}
use Rattle.std.proofs.lemmas.Bool.Decides.{nat_tests}
use Rattle.sblock.specs.Area.{child_of}
use Rattle.test_records.specs.Counted.{counted, number_at, with_number}
use Rattle.sblock.specs.Form.{same_key}
use Rattle.sblock.specs.declared.kind.Kind.TheVariants.{Ino}
use Rattle.sblock.proofs.AreaLemmas.{child_stays}
use Rattle.sblock.proofs.FieldLemmas.{field_taken, field_beside}

pub number_taken : (area : List ℕ) (at n : ℕ) → at + 4 ≤ length area → n < 2 ^ 32 → number_at (with_number area at n) at ≡ n
unfolding number_at with_number
number_taken area at n room fits = field_taken 4 area at n room fits

beside : (area : List ℕ) (at n to : ℕ) → at + 4 ≤ length area → (to + 4 ≤ at) ⊎ (at + 4 ≤ to) → number_at (with_number area at n) to ≡ number_at area to
unfolding number_at with_number
beside area at n to room apart = field_beside 4 area at n 4 to room apart

pub record_beside : (area : List ℕ) (i n : ℕ) → 16 * i + 4 ≤ length area → (j : ℕ) → j ≢ i → number_at (with_number area (16 * i) n) (16 * j) ≡ number_at area (16 * j)
record_beside area i n room j other =
    beside area (16 * i) n (16 * j) room (elim (cases_lt j i) [ inl below ↦ inl (omega (arith, below)) | inr above ↦ inr (omega (arith, above, other)) ])

pub key_beside : (area : List ℕ) (i n : ℕ) → 4 * i + 4 ≤ length area → (j : ℕ) → j ≢ i → number_at (with_number area (4 * i) n) (4 * j) ≡ number_at area (4 * j)
key_beside area i n room j other =
    beside area (4 * i) n (4 * j) room (elim (cases_lt j i) [ inl below ↦ inl (omega (arith, below)) | inr above ↦ inr (omega (arith, above, other)) ])

same_numbers : (a b : ℕ) → a ≡ b → nat_lt a b ≡ false
same_numbers a b h = grind (arith, nat_tests)

pub key_taken : (area : List ℕ) (i n : ℕ) → 4 * i + 4 ≤ length area → n < 2 ^ 32 → same_key counted (number_at (with_number area (4 * i) n) (4 * i)) n ≡ true
key_taken area i n room fits =
    let e = number_taken area (4 * i) n room fits in
    rw (same_numbers _ _ e, same_numbers _ _ (sym e)) refl

pub pointer_stays : (area : List ℕ) (i n : ℕ) → length area ≡ 4040 → i < 505 → (j : ℕ) → child_of Ino (with_number area (4 * i) n) j ≡ child_of Ino area j
unfolding with_number
pointer_stays area i n whole room j =
    child_stays Ino area 4 (4 * i) n j (omega (arith, whole, room)) (omega (arith, room))
