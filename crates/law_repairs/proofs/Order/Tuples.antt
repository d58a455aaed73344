-- A set of tuples rises where no two of them differ in the unwritten flag alone.
use Rattle.std.proofs.Common.{◌≡◌, ℕ, Bool, true, false, ◌&&◌, ◌==◌, List, [], ◌∷◌, refl, sym, ◌∙◌, arith}
use Rattle.std.specs.Prelude.{nat_lt, if◌then◌else◌}
use Rattle.std.proofs.lemmas.Bool.{and_from, eq-eqb, false≢true}
use Rattle.std.proofs.lemmas.Bool.Decides.{nat_tests}
use Rattle.fs_state.specs.Own.{comes_before, put_once, set_of}
use Rattle.rmap_recs.specs.Rmap.{is_first, is_key_before}
use Rattle.rmap_recs.specs.Runs.{AreTuples, is_same, is_tuple_before}
use Rattle.rmap_recs.specs.Words.{key_word}
use Rattle.rmap_recs.specs.declared.tuples.Tuple.{Tuple}
use Rattle.sblock.specs.Lists.{IsAhead}
use Rattle.law_repairs.proofs.Order.Lists.{Every}

-- ---- a number in front of a test

-- the first test passes and the second fails
passes_first : (a b : ℕ) (s q : Bool) → is_first a b s ≡ true → is_first a b q ≡ false → (a ≡ b) × (s ≡ true) × (q ≡ false)
passes_first a b true true h k = absurd (false≢true (sym k ∙ h))
passes_first a b true false h k = (grind (arith, nat_tests), refl, refl)
passes_first a b false true h k = absurd (grind (arith, nat_tests))
passes_first a b false false h k = absurd (false≢true (sym k ∙ h))

-- both fail, from either side
fails_both : (a b : ℕ) (s q : Bool) → is_first a b s ≡ false → is_first b a q ≡ false → (a ≡ b) × (s ≡ false) × (q ≡ false)
fails_both a b true q h k = absurd (grind (arith, nat_tests))
fails_both a b false true h k = absurd (grind (arith, nat_tests))
fails_both a b false false h k = (grind (arith, nat_tests), refl, refl)

passes_last : (a b : ℕ) (s : Bool) → is_first a b s ≡ true → nat_lt a b ≡ false → (a ≡ b) × (s ≡ true)
passes_last a b true h k = (grind (arith, nat_tests), refl)
passes_last a b false h k = absurd (grind (arith, nat_tests))

fails_last : (a b : ℕ) (s : Bool) → is_first a b s ≡ false → nat_lt b a ≡ false → a ≡ b
fails_last a b s h k = grind (arith, nat_tests)

never_less : (a b : ℕ) → nat_lt a b ≡ true → a ≡ b → ⊥
never_less a b h e = grind (arith, nat_tests)

-- ---- two tuples

-- where their keys are one, so are they
abbrev Tied : Tuple → Tuple → Type 0
Tied t u = t.block ≡ u.block → t.owner ≡ u.owner → key_word t.word ≡ key_word u.word → t.word ≡ u.word

first_by_key : (t u : Tuple) → Tied t u → comes_before t u ≡ true → is_tuple_before t u ≡ true
unfolding is_key_before comes_before
first_by_key t u tied h = (elim (is_tuple_before t u) as (λ b. is_tuple_before t u ≡ b → b ≡ true) [
  | true ↦ λ k. refl
  | false ↦ λ k.
      let x = passes_first t.block u.block _ _ h k in
      let y = passes_first t.owner u.owner _ _ x.1 x.2 in
      let z = passes_last (key_word t.word) (key_word u.word) _ y.1 y.2 in
      absurd (never_less t.word u.word z.1 (tied x.0 y.0 z.0))
]) refl

same_then : (t u : Tuple) → t.block ≡ u.block → t.owner ≡ u.owner → t.word ≡ u.word → is_same t u ≡ true
same_then t u b o w = and_from ((t.block == u.block) && (t.owner == u.owner)) (t.word == u.word) (and_from (t.block == u.block) (t.owner == u.owner) (eq-eqb t.block u.block b) (eq-eqb t.owner u.owner o)) (eq-eqb t.word u.word w)

then_by_key : (t u : Tuple) → Tied t u → comes_before t u ≡ false → is_same t u ≡ false → is_tuple_before u t ≡ true
unfolding is_key_before comes_before
then_by_key t u tied h other = (elim (is_tuple_before u t) as (λ b. is_tuple_before u t ≡ b → b ≡ true) [
  | true ↦ λ k. refl
  | false ↦ λ k.
      let x = fails_both t.block u.block _ _ h k in
      let y = fails_both t.owner u.owner _ _ x.1 x.2 in
      let z = fails_last (key_word t.word) (key_word u.word) _ y.1 y.2 in
      absurd (false≢true (sym other ∙ same_then t u x.0 y.0 (tied x.0 y.0 z)))
]) refl

ahead_put : (u t : Tuple) (us : List Tuple) → is_tuple_before u t ≡ true → IsAhead is_tuple_before u us → IsAhead is_tuple_before u (put_once t us)
ahead_put u t [] h k = h
ahead_put u t (v ∷ vs) h k = elim (comes_before t v) as (λ b. IsAhead is_tuple_before u (if b then t ∷ v ∷ vs else (if is_same t v then v ∷ vs else v ∷ put_once t vs))) [
  | true ↦ h
  | false ↦ elim (is_same t v) as (λ b. IsAhead is_tuple_before u (if b then v ∷ vs else v ∷ put_once t vs)) [ true ↦ k | false ↦ k ]
]

-- ---- sets

pub every_put : (C : Tuple → Type 0) (t : Tuple) (us : List Tuple) → C t → Every C us → Every C (put_once t us)
every_put C t [] c h = (c, tt)
every_put C t (u ∷ us) c h = elim (comes_before t u) as (λ b. Every C (if b then t ∷ u ∷ us else (if is_same t u then u ∷ us else u ∷ put_once t us))) [
  | true ↦ (c, h)
  | false ↦ elim (is_same t u) as (λ b. Every C (if b then u ∷ us else u ∷ put_once t us)) [ true ↦ h | false ↦ (h.0, every_put C t us c h.1) ]
]

pub every_set : (C : Tuple → Type 0) (ts : List Tuple) → Every C ts → Every C (set_of ts)
every_set C [] h = tt
every_set C (t ∷ ts) h = every_put C t (set_of ts) h.0 (every_set C ts h.1)

module _ (C : Tuple → Type 0) (tied : (t u : Tuple) → C t → C u → Tied t u) where
  put_rises : (t : Tuple) (us : List Tuple) → C t → Every C us → AreTuples us → AreTuples (put_once t us)
  put_rises t [] c h rises = (tt, tt)
  put_rises t (u ∷ us) c h rises = (elim (comes_before t u) as (λ b. comes_before t u ≡ b → AreTuples (if b then t ∷ u ∷ us else (if is_same t u then u ∷ us else u ∷ put_once t us))) [
    | true ↦ λ k. (first_by_key t u (tied t u c h.0) k, rises)
    | false ↦ λ k. (elim (is_same t u) as (λ b. is_same t u ≡ b → AreTuples (if b then u ∷ us else u ∷ put_once t us)) [
      | true ↦ λ s. rises
      | false ↦ λ s. (ahead_put u t us (then_by_key t u (tied t u c h.0) k s) rises.0, put_rises t us c h.1 rises.1)
    ]) refl
  ]) refl

  pub set_rises : (ts : List Tuple) → Every C ts → AreTuples (set_of ts)
  set_rises [] h = tt
  set_rises (t ∷ ts) h = put_rises t (set_of ts) h.0 (every_set C ts h.1) (set_rises ts h.1)
