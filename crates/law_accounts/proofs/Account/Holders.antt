-- Chains whose counts rise have their pairs, since they hold different inodes.
use Rattle.std.specs.Prelude.{ℕ, zero, suc, Bool, true, false, List, [], ◌∷◌, flat_map, ◌≡◌, ◌==◌, ◌||◌, ◌+◌, ◌*◌, ◌≤◌, refl, if◌then◌else◌, sum_by}
use Rattle.std.proofs.Common.{sym, ap, subst, ◌∙◌, arith}
use Rattle.std.proofs.lemmas.Bool.{eq-eqb, eqb-true, true≢false}
use Rattle.std.proofs.lemmas.List.Sums.{sum_by-append, sum_by-cons}
use Rattle.fs_change.specs.Chains.{most_chains}
use Rattle.fs_change.specs.Records.{without_first}
use Rattle.fs_state.specs.Lists.{numbers}
use Rattle.fs_state.specs.declared.intent.Intent.{Intent}
use Rattle.tree_defs.specs.Lists.{AllDiffer, is_in, times}
use Rattle.law_accounts.specs.Account.Accounts.{chains_sum, due, owes, raises}
use Rattle.law_accounts.specs.Account.Chained.{ArePaired, PairsFound}
use Rattle.law_accounts.proofs.Account.Spans.{no_true}

sum_without : (w : ℕ → ℕ) (x : ℕ) (all : List ℕ) → is_in x all ≡ true → sum_by w all ≡ w x + sum_by w (without_first (λ y. y == x) all)
sum_without w x [] h = absurd (true≢false (sym h))
sum_without w x (y ∷ ys) h = by (y == x) refl h (sum_without w x ys)
  where
    swap : (x y z : ℕ) → x + (y + z) ≡ y + (x + z)
    swap x y z = omega arith

    by : (k : Bool) → (y == x) ≡ k → (k || is_in x ys) ≡ true → (is_in x ys ≡ true → sum_by w ys ≡ w x + sum_by w (without_first (λ y. y == x) ys)) → sum_by w (y ∷ ys) ≡ w x + sum_by w (if k then ys else y ∷ without_first (λ z. z == x) ys)
    by true e h f = sum_by-cons w y ys ∙ ap (λ (z : ℕ). w z + sum_by w ys) (eqb-true y x e)
    by false e h f = sum_by-cons w y ys ∙ ap (λ (z : ℕ). w y + z) (f h) ∙ swap (w y) (w x) (sum_by w (without_first (λ z. z == x) ys)) ∙ ap (λ (z : ℕ). w x + z) (sym (sum_by-cons w y (without_first (λ z. z == x) ys)))

in_without : (x z : ℕ) (all : List ℕ) → (z ≡ x → ⊥) → is_in z all ≡ true → is_in z (without_first (λ y. y == x) all) ≡ true
in_without x z [] f h = h
in_without x z (y ∷ ys) f h = by (y == x) refl (in_without x z ys f)
  where
    keep : (p q r : Bool) → (q ≡ true → r ≡ true) → (p || q) ≡ true → (p || r) ≡ true
    keep true q r g h = refl
    keep false q r g h = g h

    drop : (p q : Bool) → p ≡ false → (p || q) ≡ true → q ≡ true
    drop true q e h = absurd (true≢false e)
    drop false q e h = h

    by : (k : Bool) → (y == x) ≡ k → (is_in z ys ≡ true → is_in z (without_first (λ y. y == x) ys) ≡ true) → is_in z (if k then ys else y ∷ without_first (λ y. y == x) ys) ≡ true
    by true e g = drop (y == z) (is_in z ys) (no_true (y == z) (λ i. f (sym (eqb-true y z i) ∙ eqb-true y x e))) h
    by false e g = keep (y == z) (is_in z ys) (is_in z (without_first (λ y. y == x) ys)) g h

stands : (x : ℕ) (xs : List ℕ) → is_in x xs ≡ true → 1 ≤ times x xs
stands x [] h = absurd (true≢false (sym h))
stands x (y ∷ ys) h = by (y == x) h (stands x ys)
  where
    by : (k : Bool) → (k || is_in x ys) ≡ true → (is_in x ys ≡ true → 1 ≤ times x ys) → 1 ≤ (if k then 1 else 0) + times x ys
    by true i f = omega arith
    by false i f = let r = f i in omega (arith, r)

abbrev bit : Bool → ℕ
bit k = if k then 1 else 0

-- the first of different numbers isn't among the others, which differ
first_once : (x : ℕ) (xs : List ℕ) → AllDiffer (x ∷ xs) → (is_in x xs ≡ true → ⊥) × AllDiffer xs
first_once x xs d = (
  (λ i.
      let one = stands x xs i in
      let most = d x in
      let here : bit (x == x) ≡ 1 = as_one (x == x) (eq-eqb x x refl) in
      omega (arith, one, most, here)),
  (λ b. let most = d b in fewer (x == b) (times b xs) most),
)
  where
    as_one : (k : Bool) → k ≡ true → bit k ≡ 1
    as_one true e = refl
    as_one false e = absurd (true≢false (sym e))

    fewer : (k : Bool) (n : ℕ) → bit k + n ≤ 1 → n ≤ 1
    fewer true n h = omega (arith, h)
    fewer false n h = omega (arith, h)

smaller : (w : ℕ → ℕ) (xs all : List ℕ) → AllDiffer xs → ((i : ℕ) → is_in i xs ≡ true → is_in i all ≡ true) → sum_by w xs ≤ sum_by w all
smaller w [] all d h = omega arith
smaller w (x ∷ xs) all d h =
    let o = first_once x xs d in
    let here : is_in x (x ∷ xs) ≡ true = ap (λ (k : Bool). k || is_in x xs) (eq-eqb x x refl) in
    let e = sum_without w x all (h x here) in
    let r : sum_by w xs ≤ sum_by w (without_first (λ y. y == x) all) = smaller w xs (without_first (λ y. y == x) all) o.1 (λ i m. in_without x i all (λ q. o.0 (subst (λ (z : ℕ). is_in z xs ≡ true) q m)) (h i (or_right (x == i) (is_in i xs) m))) in
    let c : sum_by w (x ∷ xs) ≡ w x + sum_by w xs = sum_by-cons w x xs in
    omega (arith, c, e, r)
  where
    or_right : (p q : Bool) → q ≡ true → (p || q) ≡ true
    or_right true q h = refl
    or_right false q h = h

module _ (cs : ℕ → List Intent) (held : ℕ → List ℕ) (w : ℕ → ℕ) (g b : ℕ) (pairs : ArePaired cs held w g b) where
  chains_least : (k n : ℕ) → k + n ≤ most_chains → 2 * chains_sum (owes raises g b) cs k n ≤ sum_by w (flat_map held (numbers k n))
  chains_least k zero le = omega arith
  chains_least k (suc n) le =
      let first = sum_by-append (owes raises g b) (cs k) (flat_map cs (numbers (k + 1) n)) in
      let second = sum_by-append w (held k) (flat_map held (numbers (k + 1) n)) in
      let one = pairs k (omega (arith, le)) in
      let rest = chains_least (k + 1) n (omega (arith, le)) in
      omega (arith, first, second, one, rest)

pub pairs_found : PairsFound
unfolding due
pairs_found all cs held w g b h pairs =
    let least = chains_least cs held w g b pairs 0 most_chains (omega arith) in
    let most = smaller w (flat_map held (numbers 0 most_chains)) all h.distinct h.listed in
    omega (arith, least, most)
