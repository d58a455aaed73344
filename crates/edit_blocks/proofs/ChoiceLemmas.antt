-- Blocks chosen, taken and given back.
use Rattle.std.proofs.Common.{◌≡◌, ◌≤◌, ◌<◌, ◌-◌, ℕ, zero, suc, ◌+◌, List, [], ◌∷◌, ◌++◌, length, take, drop, refl, sym, ap, ◌∙◌, arith, add-one, take-suc, take-append-drop, append_assoc, length-append}
use Rattle.std.specs.Prelude.{min, slice_index}
use Rattle.tree_defs.specs.Lists.{times}
use Rattle.edit_blocks.specs.Choice.{chosen, EachOnce, TakenAreFirst, GivenAreAll}
use Rattle.edit_blocks.specs.declared.choice.TheConstants.{LIST_MOST}

pub times_append : (b : ℕ) (xs ys : List ℕ) → times b (xs ++ ys) ≡ times b xs + times b ys
times_append b [] ys = omega arith
times_append b (x ∷ xs) ys =
    let rest = times_append b xs ys in
    omega (arith, rest)

none_taken : (m : ℕ) → take {A = ℕ} m [] ≡ []
none_taken zero = refl
none_taken (suc m) = refl

-- the first n of two lists
pub split_take : (xs ys : List ℕ) (n k : ℕ) → k ≡ n - length xs → take n (xs ++ ys) ≡ take n xs ++ take k ys
split_take [] ys n k e = let same : n ≡ k = omega (arith, e) in ap (λ (i : ℕ). take i ys) same ∙ ap (λ (zs : List ℕ). zs ++ take k ys) (sym (none_taken n))
split_take (x ∷ xs) ys zero k e = let same : zero ≡ k = omega (arith, e) in ap (λ (i : ℕ). take i ys) same
split_take (x ∷ xs) ys (suc n) k e = ap (λ (zs : List ℕ). x ∷ zs) (split_take xs ys n k (omega (arith, e)))

-- no more than there are
pub take_all : (xs : List ℕ) (n k : ℕ) → k ≡ min n (length xs) → take k xs ≡ take n xs
take_all [] n zero e = sym (none_taken n)
take_all [] n (suc k) e = absurd (omega (arith, e))
take_all (x ∷ xs) zero k e = let same : k ≡ zero = omega (arith, e) in ap (λ (i : ℕ). take i (x ∷ xs)) same
take_all (x ∷ xs) (suc n) zero e = absurd (omega (arith, e))
take_all (x ∷ xs) (suc n) (suc k) e = ap (λ (zs : List ℕ). x ∷ zs) (take_all xs n k (omega (arith, e)))

pub each_once : EachOnce
each_once blocks listed after b =
    let k = after - length blocks in
    let c = times_append b (take after blocks) (take k listed) in
    let d = times_append b (take after blocks) (drop after blocks) in
    let whole = ap (times b) (take-append-drop after blocks) in
    let first = ap (times b) (split_take blocks listed after k refl) in
    omega (arith, c, d, whole, first)

pub taken_are_first : TakenAreFirst
taken_are_first blocks listed after = sym (take-append-drop (after - length blocks) listed)

pub given_are_all : GivenAreAll
given_are_all listed blocks = sym (take-append-drop (LIST_MOST - length listed) blocks)

-- one more of the list's first blocks
pub one_more : (xs : List ℕ) (i b : ℕ) (ys front : List ℕ) → i < length xs → b ≡ slice_index xs i → ys ≡ front ++ take i xs → ys ++ b ∷ [] ≡ front ++ take (i + 1) xs
one_more xs i b ys front lt e have =
    ap (λ (zs : List ℕ). zs ++ b ∷ []) have
    ∙ append_assoc front (take i xs) (b ∷ [])
    ∙ ap (λ (zs : List ℕ). front ++ zs) (ap (λ (c : ℕ). take i xs ++ c ∷ []) e ∙ sym (rw add-one (take-suc xs i 0 lt)))

-- all that were to be chosen
pub all_chosen : (blocks listed ys : List ℕ) (after kept count : ℕ) → kept ≡ min after (length blocks) → count ≡ after - length blocks → ys ≡ take kept blocks ++ take count listed → ys ≡ chosen blocks listed after
all_chosen blocks listed ys after kept count e f have =
    have ∙ ap (λ (zs : List ℕ). zs ++ take count listed) (take_all blocks after kept e) ∙ sym (split_take blocks listed after count f)

-- there is room for one more of those that fit
pub has_room : (xs ys zs rest : List ℕ) (x most : ℕ) → xs ++ x ∷ rest ≡ ys ++ zs → length ys + length zs ≤ most → length xs < most
has_room xs ys zs rest x most e fits =
    let same = ap length e in
    omega (arith, same, length-append xs (x ∷ rest), length-append ys zs, fits)
