-- Bytes that are all zero, as far as they were gone through.
use Rattle.std.proofs.Common.{◌≡◌, ℕ, ◌+◌, ◌<◌, ◌≤◌, List, ◌∷◌, [], ◌++◌, length, get_or, take, replicate, sym, ap, ◌∙◌, arith}
use Rattle.std.specs.Prelude.{bit_or}
use Rattle.std.proofs.lemmas.Nat.{le_or_l, le_or_r}
use Rattle.std.proofs.lemmas.List.{length-replicate, replicate_more, take_all, take_more}

pub empty_on : (i any : ℕ) (xs : List ℕ) → i < length xs → (any ≡ 0 → take i xs ≡ replicate i 0) → bit_or any (get_or xs i 0) ≡ 0 → take (i + 1) xs ≡ replicate (i + 1) 0
empty_on i any xs lt before none =
    let old : any ≡ 0 = omega (arith, le_or_l any (get_or xs i 0), none) in
    let this : get_or xs i 0 ≡ 0 = omega (arith, le_or_r any (get_or xs i 0), none) in
    take_more xs i 0 lt ∙ (ap (λ (ys : List ℕ). ys ++ get_or xs i 0 ∷ []) (before old) ∙ (ap (λ (x : ℕ). replicate i 0 ++ x ∷ []) this ∙ replicate_more i 0))

pub empty_all : (n : ℕ) (xs : List ℕ) → length xs ≤ n → take n xs ≡ replicate n 0 → xs ≡ replicate (length xs) 0
empty_all n xs le all =
    let whole : xs ≡ replicate n 0 = sym (take_all n xs le) ∙ all in
    let e : length xs ≡ n = ap length whole ∙ length-replicate n 0 in
    whole ∙ ap (λ (k : ℕ). replicate k 0) (sym e)
