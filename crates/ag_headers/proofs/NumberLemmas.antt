-- A row of numbers of four bytes that was written is read again.
use Rattle.std.proofs.Common.{◌≡◌, ℕ, zero, suc, ◌+◌, ◌*◌, ◌^◌, ◌<◌, List, [], ◌∷◌, ◌++◌, length, get_or, drop, refl, sym, ap, ◌∙◌, arith, length-append}
use Rattle.std.specs.Prelude.{slice_index}
use Rattle.std.specs.List.{flat_map}
use Rattle.std.proofs.lemmas.List.{drop_at, drop-drop}
use Rattle.std.proofs.lemmas.List.FromFn.{fill_by_all}
use Rattle.byteorder.specs.Endian.{big_bytes, big_from}
use Rattle.byteorder.specs.Numbers.{big_number-reads_back, length-bytes_high_first}
use Rattle.byte_fields.specs.Fields.{field}
use Rattle.ag_headers.specs.Fields.{numbers_in}

pub length_of_row : (xs : List ℕ) → length (flat_map (big_bytes 4) xs) ≡ 4 * length xs
length_of_row [] = refl
length_of_row (x ∷ xs) =
    let here = length-bytes_high_first 4 x in
    let rest = length_of_row xs in
    let all = length-append (big_bytes 4 x) (flat_map (big_bytes 4) xs) in
    all ∙ omega arith

number_of_row : (xs : List ℕ) (k : ℕ) → k < length xs → get_or xs k 0 < 2 ^ 32 → field 4 (flat_map (big_bytes 4) xs) (4 * k) ≡ get_or xs k 0
number_of_row [] k below fits = absurd (omega arith)
number_of_row (x ∷ xs) zero below fits = big_number-reads_back 4 x (flat_map (big_bytes 4) xs) fits
number_of_row (x ∷ xs) (suc k) below fits =
    let on : 4 + 4 * k ≡ 4 * suc k = omega arith in
    let behind : drop (4 * suc k) (big_bytes 4 x ++ flat_map (big_bytes 4) xs) ≡ drop (4 * k) (flat_map (big_bytes 4) xs) =
    ap (λ (m : ℕ). drop m (big_bytes 4 x ++ flat_map (big_bytes 4) xs)) (sym on)
    ∙ (sym (drop-drop (4 * k) 4 (big_bytes 4 x ++ flat_map (big_bytes 4) xs))
    ∙ ap (drop (4 * k)) (drop_at (big_bytes 4 x) (flat_map (big_bytes 4) xs) 4 (length-bytes_high_first 4 x))) in
    ap (big_from 0 4) behind ∙ number_of_row xs k (omega arith) fits

pub row_again : (n : ℕ) (xs : List ℕ) → length xs ≡ n → ((k : ℕ) → slice_index xs k < 2 ^ 32) → numbers_in n (flat_map (big_bytes 4) xs) ≡ xs
unfolding numbers_in
row_again n xs whole fits =
    sym (fill_by_all (λ i. field 4 (flat_map (big_bytes 4) xs) (4 * i)) xs n 0 whole (λ k below. sym (number_of_row xs k (omega arith) (fits k))))
