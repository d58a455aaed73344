-- The remainder over a list that is gone through from the left.
use Rattle.std.proofs.Common.{◌≡◌, ℕ, ◌+◌, ◌<◌, ◌≤◌, List, [], ◌∷◌, ◌++◌, length, get_or, take, drop, refl, sym, ap, ◌∙◌, add-one, drop-cons}
use Rattle.std.proofs.lemmas.List.{drop_all, drop-drop, take-append-drop}
use Rattle.byte_fields.specs.Checksum.{after_byte, after_bytes, blanked}

pub after_bytes_step : (c i : ℕ) (xs : List ℕ) → i < length xs → after_bytes c (drop i xs) ≡ after_bytes (after_byte c (get_or xs i 0)) (drop (i + 1) xs)
unfolding after_bytes
after_bytes_step c i xs h = rw (add-one, drop-cons xs i 0) refl

pub after_bytes_end : (c i : ℕ) (xs : List ℕ) → length xs ≤ i → after_bytes c (drop i xs) ≡ c
unfolding after_bytes
after_bytes_end c i xs h = rw drop_all refl

pub after_bytes_append : (c : ℕ) (xs ys : List ℕ) → after_bytes c (xs ++ ys) ≡ after_bytes (after_bytes c xs) ys
unfolding after_bytes
after_bytes_append c [] ys = refl
after_bytes_append c (x ∷ xs) ys = after_bytes_append (after_byte c x) xs ys

pub checksum_in_parts : (c at : ℕ) (xs : List ℕ) → after_bytes (after_bytes (after_bytes c (take at xs)) (0 ∷ 0 ∷ 0 ∷ 0 ∷ [])) (drop 4 (drop at xs)) ≡ after_bytes c (blanked xs at)
unfolding blanked
checksum_in_parts c at xs = rw drop-drop (simp after_bytes_append)

pub after_bytes_split : (c n : ℕ) (xs : List ℕ) → after_bytes (after_bytes c (take n xs)) (drop n xs) ≡ after_bytes c xs
after_bytes_split c n xs = sym (after_bytes_append c (take n xs) (drop n xs)) ∙ ap (after_bytes c) (take-append-drop n xs)
