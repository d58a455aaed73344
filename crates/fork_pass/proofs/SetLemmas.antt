-- Sets of claims that gain pieces, one call after the other.
use Rattle.std.proofs.Common.{◌≡◌, ℕ, zero, suc, ◌+◌, ◌<◌, Bool, true, false, Result, Ok, Err, is_ok, inl, inr, List, [], ◌∷◌, ◌++◌, length, get_or, set, take, refl, ap, sym, ◌∙◌, arith, append_assoc}
use Rattle.std.specs.Prelude.{◌==◌, OnOk}
use Rattle.std.proofs.lemmas.Bool.{cases_Bool, false≢true}
use Rattle.std.proofs.lemmas.Bool.Decides.{nat_tests}
use Rattle.std.proofs.lemmas.List.{append-nil}
use Rattle.fs_state.specs.Lists.{only_if}
use Rattle.unit_plan.specs.Sets.{pieces_of}
use Rattle.unit_plan.specs.declared.claims.ClaimSet.{ClaimSet}
use Rattle.unit_plan.specs.declared.piece.Piece.{Piece}
use Rattle.fork_pass.specs.Sets.{Adds, AreFresh, Leaves, pieces_at}

pub adds_none : (sets : List ClaimSet) → Adds sets sets (λ g. [])
adds_none sets = record { long = refl; each = λ g. sym (append-nil (pieces_at sets g)) }

pub adds_then : (a b c : List ClaimSet) (f h : ℕ → List Piece) → Adds a b f → Adds b c h → Adds a c (λ g. f g ++ h g)
adds_then a b c f h first second = record {
  long = second.long ∙ first.long;
  each = λ g. second.each g ∙ ap (λ (ps : List Piece). ps ++ h g) (first.each g) ∙ append_assoc (pieces_at a g) (f g) (h g);
}

pub adds_same : (a b : List ClaimSet) (f h : ℕ → List Piece) → ((g : ℕ) → f g ≡ h g) → Adds a b f → Adds a b h
adds_same a b f h same adds = record { long = adds.long; each = λ g. adds.each g ∙ ap (λ (ps : List Piece). pieces_at a g ++ ps) (same g) }

pub leaves_first : (sets : List ClaimSet) (all rest : ℕ → List Piece) → ((g : ℕ) → rest g ≡ all g) → Leaves sets sets all rest
leaves_first sets all rest same = record { long = refl; each = λ g. ap (λ (ps : List Piece). pieces_at sets g ++ ps) (same g) }

pub leaves_on : (old now new : List ClaimSet) (all rest next more : ℕ → List Piece) → ((g : ℕ) → rest g ≡ more g ++ next g) → Leaves old now all rest → Adds now new more → Leaves old new all next
leaves_on old now new all rest next more parts left adds = record {
  long = adds.long ∙ left.long;
  each = λ g.
      ap (λ (ps : List Piece). ps ++ next g) (adds.each g) ∙ append_assoc (pieces_at now g) (more g) (next g)
      ∙ ap (λ (ps : List Piece). pieces_at now g ++ ps) (sym (parts g)) ∙ left.each g;
}

pub leaves_all : (old now : List ClaimSet) (all rest : ℕ → List Piece) → ((g : ℕ) → rest g ≡ []) → Leaves old now all rest → Adds old now all
leaves_all old now all rest none left = record {
  long = left.long;
  each = λ g. sym (append-nil (pieces_at now g)) ∙ ap (λ (ps : List Piece). pieces_at now g ++ ps) (sym (none g)) ∙ left.each g;
}

set_long : (sets : List ClaimSet) (i : ℕ) (s : ClaimSet) → length (set sets i s) ≡ length sets
set_long [] i s = refl
set_long (x ∷ xs) zero s = refl
set_long (x ∷ xs) (suc i) s = ap suc (set_long xs i s)

same_again : (i h : ℕ) → (suc i == suc h) ≡ (i == h)
same_again i h =
    elim (cases_Bool (i == h)) [
      | inl alike ↦ let e : (suc i == suc h) ≡ true = grind (arith, nat_tests, alike) in e ∙ sym alike
      | inr differ ↦ let e : (suc i == suc h) ≡ false = grind (arith, nat_tests, differ) in e ∙ sym differ
    ]

not_first : (h : ℕ) → (0 == suc h) ≡ false
not_first h = grind (arith, nat_tests)

pub not_last : (i : ℕ) → (suc i == 0) ≡ false
not_last i = grind (arith, nat_tests)

put_each : (sets : List ClaimSet) (i : ℕ) (s d : ClaimSet) (piece : Piece) → i < length sets → pieces_of s ≡ pieces_of (get_or sets i d) ++ piece ∷ [] → (g : ℕ) → pieces_at (set sets i s) g ≡ pieces_at sets g ++ only_if (i == g) piece
unfolding pieces_at
put_each [] i s d piece lt is g = absurd (omega (arith, lt))
put_each (x ∷ xs) zero s d piece lt is zero = is
put_each (x ∷ xs) zero s d piece lt is (suc g) = sym (append-nil (pieces_at xs g)) ∙ ap (λ (b : Bool). pieces_at xs g ++ only_if b piece) (sym (not_first g))
put_each (x ∷ xs) (suc i) s d piece lt is zero = sym (append-nil (pieces_of x)) ∙ ap (λ (b : Bool). pieces_of x ++ only_if b piece) (sym (not_last i))
put_each (x ∷ xs) (suc i) s d piece lt is (suc g) = put_each xs i s d piece (omega (arith, lt)) is g ∙ ap (λ (b : Bool). pieces_at xs g ++ only_if b piece) (sym (same_again i g))

-- one set gains a piece
pub put_at : (sets : List ClaimSet) (i : ℕ) (s d : ClaimSet) (piece : Piece) → i < length sets → pieces_of s ≡ pieces_of (get_or sets i d) ++ piece ∷ [] → Adds sets (set sets i s) (λ g. only_if (i == g) piece)
put_at sets i s d piece lt is = record { long = set_long sets i s; each = put_each sets i s d piece lt is }

-- what a call says of its answer holds where there is one
pub answered : {T E : Type 0} (P : Type 0) (result : Result T E) → is_ok result ≡ true → OnOk result P → P
answered P (Ok x) is h = h
answered P (Err e) is h = absurd (false≢true is)

long_more : (xs : List ClaimSet) (s : ClaimSet) → length (xs ++ s ∷ []) ≡ length xs + 1
long_more [] s = refl
long_more (x ∷ xs) s = let rest = long_more xs s in omega (arith, rest)

empty_more : (xs : List ClaimSet) (s : ClaimSet) (g : ℕ) → pieces_of s ≡ [] → ((h : ℕ) → pieces_at xs h ≡ []) → pieces_at (xs ++ s ∷ []) g ≡ []
unfolding pieces_at
empty_more [] s zero none all = none
empty_more [] s (suc g) none all = refl
empty_more (x ∷ xs) s zero none all = all zero
empty_more (x ∷ xs) s (suc g) none all = empty_more xs s g none (λ h. all (suc h))

-- one more set without claims
pub fresh_more : (n : ℕ) (old new : List ClaimSet) (s : ClaimSet) → AreFresh n old → new ≡ old ++ s ∷ [] → pieces_of s ≡ [] → AreFresh (n + 1) new
fresh_more n old new s fresh made none = record {
  long = ap (λ (xs : List ClaimSet). length xs) made ∙ long_more old s ∙ ap (λ (k : ℕ). k + 1) fresh.long;
  none = λ g. ap (λ (xs : List ClaimSet). pieces_at xs g) made ∙ empty_more old s g none fresh.none;
}

pub fresh_none : (sets : List ClaimSet) → sets ≡ [] → AreFresh 0 sets
unfolding pieces_at
fresh_none sets is = record { long = ap (λ (xs : List ClaimSet). length xs) is; none = λ g. ap (λ (xs : List ClaimSet). pieces_at xs g) is }

-- what is behind the last set is nothing
take_front : (xs ys : List ClaimSet) → take (length xs) (xs ++ ys) ≡ xs
take_front [] ys = refl
take_front (x ∷ xs) ys = ap (λ (zs : List ClaimSet). x ∷ zs) (take_front xs ys)

pub whole_sets : (n : ℕ) (xs ys : List ClaimSet) → length xs ≡ n → take n (xs ++ ys) ≡ xs
whole_sets n xs ys long = ap (λ (k : ℕ). take k (xs ++ ys)) (sym long) ∙ take_front xs ys
