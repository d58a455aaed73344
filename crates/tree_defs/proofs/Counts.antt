-- How often numbers stand in lists.
use Rattle.std.proofs.Common.{◌≡◌, ℕ, zero, suc, ◌+◌, ◌<◌, ◌≤◌, Bool, true, false, List, [], ◌∷◌, ◌++◌, length, refl, ◌∙◌, ap, arith}
use Rattle.std.specs.Prelude.{◌==◌, if◌then◌else◌}
use Rattle.std.proofs.lemmas.Bool.{eqb-true}
use Rattle.std.proofs.lemmas.Bool.Decides.{nat_tests}
use Rattle.tree_defs.specs.Lists.{times, AllDiffer}

-- each number lies behind 0 and below this one
abbrev pub AllBetween : ℕ → List ℕ → Type 0
AllBetween n [] = Unit {0}
AllBetween n (p ∷ ps) = (1 ≤ p) × (p < n) × AllBetween n ps

pub between_append : (n : ℕ) (xs ys : List ℕ) → AllBetween n xs → AllBetween n ys → AllBetween n (xs ++ ys)
between_append n [] ys a b = b
between_append n (x ∷ xs) ys a b = (a.0, a.1, between_append n xs ys a.2 b)

pub one_or_none : (c : Bool) → (if c then 1 else 0) ≤ 1
one_or_none true = omega arith
one_or_none false = omega arith

pub times_append : (b : ℕ) (xs ys : List ℕ) → times b (xs ++ ys) ≡ times b xs + times b ys
times_append b [] ys = omega arith
times_append b (x ∷ xs) ys = omega (arith, times_append b xs ys)

pub same_number : (a : ℕ) → (a == a) ≡ true
same_number a = grind (arith, nat_tests)

other_number : (a b : ℕ) → a < b → (a == b) ≡ false
other_number a b h = grind (arith, nat_tests)

lower_number : (a b : ℕ) → b < a → (a == b) ≡ false
lower_number a b h = grind (arith, nat_tests)

-- how many of a list are below n
abbrev among : ℕ → List ℕ → ℕ
among zero ps = 0
among (suc n) ps = times n ps + among n ps

among_none : (n : ℕ) → among n [] ≡ 0
among_none zero = refl
among_none (suc n) = omega (arith, among_none n)

among_others : (n p : ℕ) (ps : List ℕ) → n ≤ p → among n (p ∷ ps) ≡ among n ps
among_others zero p ps le = refl
among_others (suc n) p ps le =
    let e : (p == n) ≡ false = lower_number p n (omega (arith, le)) in
    rw (e, among_others n p ps (omega (arith, le))) (omega arith)

still_below : (p n : ℕ) → p < suc n → (p == n) ≡ false → p < n
still_below p n lt e = grind (arith, nat_tests)

-- by whether the number is the next one
one_more : (c : Bool) (n p : ℕ) (ps : List ℕ) → (p == n) ≡ c → p < suc n → (p < n → among n (p ∷ ps) ≡ suc (among n ps)) → among (suc n) (p ∷ ps) ≡ suc (among (suc n) ps)
one_more true n p ps e lt below =
    let s : p ≡ n = eqb-true p n e in
    let o : among n (p ∷ ps) ≡ among n ps = among_others n p ps (omega (arith, s)) in
    rw (e, o) (omega arith)
one_more false n p ps e lt below =
    let o : among n (p ∷ ps) ≡ suc (among n ps) = below (still_below p n lt e) in
    rw (e, o) (omega arith)

among_more : (n p : ℕ) (ps : List ℕ) → p < n → among n (p ∷ ps) ≡ suc (among n ps)
among_more zero p ps lt = absurd (omega arith)
among_more (suc n) p ps lt = one_more (p == n) n p ps refl lt (λ below. among_more n p ps below)

-- all of them are
pub all_among : (n : ℕ) (ps : List ℕ) → AllBetween n ps → among n ps ≡ length ps
all_among n [] h = among_none n
all_among n (p ∷ ps) h = among_more n p ps h.1 ∙ ap suc (all_among n ps h.2)

-- of numbers that differ at most n are below n
pub few_among : (n : ℕ) (ps : List ℕ) → AllDiffer ps → among n ps ≤ n
few_among zero ps h = omega arith
few_among (suc n) ps h = omega (arith, h n, few_among n ps h)

none_is_zero : (n : ℕ) (ps : List ℕ) → AllBetween n ps → times 0 ps ≡ 0
none_is_zero n [] h = refl
none_is_zero n (p ∷ ps) h =
    let e : (p == 0) ≡ false = lower_number p 0 (omega (arith, h.0)) in
    rw e (omega (arith, none_is_zero n ps h.2))

-- and without 0 one less
fewer_among : (n : ℕ) (ps : List ℕ) → AllDiffer ps → times 0 ps ≡ 0 → among (suc n) ps ≤ n
fewer_among zero ps h none = omega (arith, none)
fewer_among (suc n) ps h none = omega (arith, h (suc n), fewer_among n ps h none)

positive : (n : ℕ) → 0 < n → (k : ℕ) × (n ≡ suc k)
positive zero lt = absurd (omega arith)
positive (suc k) lt = (k, refl)

pub fewer : (n : ℕ) (ps : List ℕ) → 0 < n → AllBetween n ps → AllDiffer ps → length ps < n
fewer n ps lt between differ =
    let k = positive n lt in
    let a : among (suc k.0) ps ≡ length ps = rw (k.1) at (all_among n ps between) in
    omega (arith, a, k.1, fewer_among k.0 ps differ (none_is_zero n ps between))
