-- What holds of each element of a list, and how often numbers stand in one.
use Rattle.std.proofs.Common.{◌≡◌, ℕ, zero, suc, ◌<◌, ◌≤◌, ◌≢◌, Bool, true, List, [], ◌∷◌, ◌++◌, ◌&&◌, All, length, get_or, map, flat_map, refl, sym, subst, ◌∙◌, ap₂, inl, inr, arith}
use Rattle.std.specs.Prelude.{◌==◌, if◌then◌else◌}
use Rattle.std.specs.List.{AllPairs, list_all}
use Rattle.std.proofs.lemmas.Bool.{and_parts, cases_Bool, eq-eqb, eqb-true}
use Rattle.std.proofs.lemmas.List.Elements.{All-cons, All-nil}
use Rattle.tree_defs.specs.Lists.{AllDiffer, In, times}

abbrev pub Every : {X : Type 0} → (X → Type 0) → List X → Type 0
Every P [] = Unit {0}
Every P (x ∷ xs) = P x × Every P xs

pub every_both : {X : Type 0} (P : X → Type 0) (xs ys : List X) → Every P xs → Every P ys → Every P (xs ++ ys)
every_both P [] ys h k = k
every_both P (x ∷ xs) ys h k = (h.0, every_both P xs ys h.1 k)

pub every_map : {X Y : Type 0} (P : Y → Type 0) (f : X → Y) (xs : List X) → Every (λ x. P (f x)) xs → Every P (map f xs)
every_map P f [] h = tt
every_map P f (x ∷ xs) h = (h.0, every_map P f xs h.1)

pub every_flat : {X Y : Type 0} (P : Y → Type 0) (f : X → List Y) (xs : List X) → Every (λ x. Every P (f x)) xs → Every P (flat_map f xs)
every_flat P f [] h = tt
every_flat P f (x ∷ xs) h = every_both P (f x) (flat_map f xs) h.0 (every_flat P f xs h.1)

pub every_of : {X : Type 0} (P : X → Type 0) → ((x : X) → P x) → (xs : List X) → Every P xs
every_of P h [] = tt
every_of P h (x ∷ xs) = (h x, every_of P h xs)

pub every_weaker : {X : Type 0} (P Q : X → Type 0) → ((x : X) → P x → Q x) → (xs : List X) → Every P xs → Every Q xs
every_weaker P Q f [] h = tt
every_weaker P Q f (x ∷ xs) h = (f x h.0, every_weaker P Q f xs h.1)

pub every_all : {X : Type 0} (P : X → Type 0) (xs : List X) → Every P xs → All P xs
every_all P [] h = All-nil P
every_all P (x ∷ xs) h = All-cons P x xs h.0 (every_all P xs h.1)

pub every_test : {X : Type 0} (t : X → Bool) (xs : List X) → Every (λ x. t x ≡ true) xs → list_all t xs ≡ true
every_test t [] h = refl
every_test t (x ∷ xs) h = ap₂ (λ (a b : Bool). a && b) h.0 (every_test t xs h.1)

pub test_every : {X : Type 0} (t : X → Bool) (xs : List X) → list_all t xs ≡ true → Every (λ x. t x ≡ true) xs
test_every t [] h = tt
test_every t (x ∷ xs) h = let p = and_parts (t x) (list_all t xs) h in (p.0, test_every t xs p.1)

-- ---- numbers

pub every_in : (P : ℕ → Type 0) (xs : List ℕ) → ((x : ℕ) → In x xs → P x) → Every P xs
every_in P [] h = tt
every_in P (x ∷ xs) h = (h x (inl refl), every_in P xs (λ y i. h y (inr i)))

pub in_every : (P : ℕ → Type 0) (xs : List ℕ) → Every P xs → (x : ℕ) → In x xs → P x
in_every P [] h x i = absurd i
in_every P (y ∷ ys) h x (inl e) = subst P e h.0
in_every P (y ∷ ys) h x (inr i) = in_every P ys h.1 x i

place_in : (b : ℕ) (xs : List ℕ) → In b xs → (k : ℕ) × (k < length xs) × (get_or xs k 0 ≡ b)
place_in b [] i = absurd i
place_in b (x ∷ xs) (inl e) = (zero, omega arith, e)
place_in b (x ∷ xs) (inr i) = let r = place_in b xs i in let lt = r.1 in (suc r.0, omega (arith, lt), r.2)

pub at_place : (P : ℕ → Type 0) (xs : List ℕ) → All P xs → (b : ℕ) → In b xs → P b
at_place P xs all b i = let r = place_in b xs i in subst P r.2 (all r.0 0 r.1)

never_in : (b : ℕ) (xs : List ℕ) → (In b xs → ⊥) → times b xs ≡ 0
never_in b [] none = refl
never_in b (x ∷ xs) none = elim (cases_Bool (x == b)) [
  | inl same ↦ absurd (none (inl (eqb-true x b same)))
  | inr other ↦ let rest = never_in b xs (λ i. none (inr i)) in rw other (omega (arith, rest))
]

pub times_in : (p : ℕ) (xs : List ℕ) → 1 ≤ times p xs → In p xs
times_in p [] h = absurd (omega (arith, h))
times_in p (x ∷ xs) h = elim (cases_Bool (x == p)) [
  | inl same ↦ inl (eqb-true x p same)
  | inr other ↦ let z : ◌≡◌ {A = ℕ} (if x == p then 1 else 0) 0 = rw other refl in inr (times_in p xs (omega (arith, h, z)))
]

pub times_of : (p : ℕ) (xs : List ℕ) → In p xs → 1 ≤ times p xs
times_of p [] i = absurd i
times_of p (x ∷ xs) (inl e) = let z : ◌≡◌ {A = ℕ} (if x == p then 1 else 0) 1 = rw (eq-eqb x p e) refl in omega (arith, z)
times_of p (x ∷ xs) (inr i) = let more = times_of p xs i in omega (arith, more)

-- numbers that differ two by two stand there once
pub pairs_differ : (xs : List ℕ) → AllPairs (λ a b. a ≢ b) xs → AllDiffer xs
pairs_differ [] h b = omega arith
pairs_differ (x ∷ xs) h b = elim (cases_Bool (x == b)) [
  | inl same ↦
      let none = never_in b xs (λ i. let r = place_in b xs i in let lt = r.1 in h 0 (suc r.0) 0 (omega arith) (omega (arith, lt)) (eqb-true x b same ∙ sym r.2)) in
      rw same (omega (arith, none))
  | inr other ↦ let rest = pairs_differ xs (λ i j d lt below. h (suc i) (suc j) d (omega (arith, lt)) (omega (arith, below))) b in rw other (omega (arith, rest))
]
