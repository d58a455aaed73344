-- Limbo is a set: one list for each set of pairs.
use Rattle.std.proofs.Common.{◌≡◌, ◌⊎◌, ℕ, true, false, List, [], ◌∷◌, Contains, refl, subst, inl, inr, arith}
use Rattle.std.specs.Prelude.{nat_lt, if◌then◌else◌}
use Rattle.std.proofs.lemmas.Bool.Decides.{nat_tests}
use Rattle.sblock.specs.Lists.{IsAhead, Rises}
use Rattle.rmap_recs.specs.Rmap.{is_first}
use Rattle.rmap_recs.proofs.RisingLemmas.{nothing_in, in_front, in_rest, in_either, one_rising}
use Rattle.fs_state.specs.Frame.{PairsAreASet}
use Rattle.fs_state.specs.State.{Owned, comes_first, put_pair, pairs_of}

-- ---- the order of pairs

strict_pair : (a x : ℕ) → is_first a a (nat_lt x x) ≡ false
strict_pair a x = grind (arith, nat_tests)

along_pair : (a b c x y z : ℕ) → is_first a b (nat_lt x y) ≡ true → is_first b c (nat_lt y z) ≡ true → is_first a c (nat_lt x z) ≡ true
along_pair a b c x y z h k = grind (arith, nat_tests)

same_block : (a b x y : ℕ) → is_first a b (nat_lt x y) ≡ false → is_first b a (nat_lt y x) ≡ false → a ≡ b
same_block a b x y h k = grind (arith, nat_tests)

same_owner : (a b x y : ℕ) → is_first a b (nat_lt x y) ≡ false → is_first b a (nat_lt y x) ≡ false → x ≡ y
same_owner a b x y h k = grind (arith, nat_tests)

strict : (o : Owned) → comes_first o o ≡ false
strict o = strict_pair o.block o.owner

along : (o p q : Owned) → comes_first o p ≡ true → comes_first p q ≡ true → comes_first o q ≡ true
along o p q = along_pair o.block p.block q.block o.owner p.owner q.owner

same : (o p : Owned) → comes_first o p ≡ false → comes_first p o ≡ false → p ≡ o
same o p h k = λ i. record { block = same_block p.block o.block p.owner o.owner k h i; owner = same_owner p.block o.block p.owner o.owner k h i }

-- ---- a pair put in its place

ahead_put : (q o : Owned) (ps : List Owned) → comes_first q o ≡ true → IsAhead comes_first q ps → IsAhead comes_first q (put_pair o ps)
ahead_put q o [] h ahead = h
ahead_put q o (p ∷ ps) h ahead =
    elim (comes_first o p) as (λ t. IsAhead comes_first q (if t then o ∷ p ∷ ps else if comes_first p o then p ∷ put_pair o ps else p ∷ ps)) [
      | true ↦ h
      | false ↦ elim (comes_first p o) as (λ t. IsAhead comes_first q (if t then p ∷ put_pair o ps else p ∷ ps)) [ true ↦ ahead | false ↦ ahead ]
    ]

put_rises : (o : Owned) (ps : List Owned) → Rises comes_first ps → Rises comes_first (put_pair o ps)
put_rises o [] rises = (tt, tt)
put_rises o (p ∷ ps) rises =
    (elim (comes_first o p) as (λ t. comes_first o p ≡ t → Rises comes_first (if t then o ∷ p ∷ ps else if comes_first p o then p ∷ put_pair o ps else p ∷ ps)) [
      | true ↦ λ h. (h, rises)
      | false ↦ λ h. (elim (comes_first p o) as (λ t. comes_first p o ≡ t → Rises comes_first (if t then p ∷ put_pair o ps else p ∷ ps)) [
        | true ↦ λ k. (ahead_put p o ps k rises.0, put_rises o ps rises.1)
        | false ↦ λ k. rises
      ]) refl
    ]) refl

put_has : (o : Owned) (ps : List Owned) (x : Owned) → Contains (put_pair o ps) x → (o ≡ x) ⊎ Contains ps x
put_has o [] x has = in_either o [] x has
put_has o (p ∷ ps) x has =
    (elim (comes_first o p) as (λ t. Contains (if t then o ∷ p ∷ ps else if comes_first p o then p ∷ put_pair o ps else p ∷ ps) x → (o ≡ x) ⊎ Contains (p ∷ ps) x) [
      | true ↦ λ in_it. in_either o (p ∷ ps) x in_it
      | false ↦ (elim (comes_first p o) as (λ t. Contains (if t then p ∷ put_pair o ps else p ∷ ps) x → (o ≡ x) ⊎ Contains (p ∷ ps) x) [
        | true ↦ λ in_it. elim (in_either p (put_pair o ps) x in_it) [
          | inl here ↦ inr (subst (Contains (p ∷ ps)) here (in_front p ps))
          | inr later ↦ elim (put_has o ps x later) [ inl new ↦ inl new | inr old ↦ inr (in_rest p ps x old) ]
        ]
        | false ↦ λ in_it. inr in_it
      ])
    ]) has

put_keeps : (o : Owned) (ps : List Owned) (x : Owned) → Contains ps x → Contains (put_pair o ps) x
put_keeps o [] x has = absurd (nothing_in x has)
put_keeps o (p ∷ ps) x has =
    elim (comes_first o p) as (λ t. Contains (if t then o ∷ p ∷ ps else if comes_first p o then p ∷ put_pair o ps else p ∷ ps) x) [
      | true ↦ in_rest o (p ∷ ps) x has
      | false ↦ elim (comes_first p o) as (λ t. Contains (if t then p ∷ put_pair o ps else p ∷ ps) x) [
        | true ↦ elim (in_either p ps x has) [
          | inl here ↦ subst (Contains (p ∷ put_pair o ps)) here (in_front p (put_pair o ps))
          | inr later ↦ in_rest p (put_pair o ps) x (put_keeps o ps x later)
        ]
        | false ↦ has
      ]
    ]

put_here : (o : Owned) (ps : List Owned) → Contains (put_pair o ps) o
put_here o [] = in_front o []
put_here o (p ∷ ps) =
    (elim (comes_first o p) as (λ t. comes_first o p ≡ t → Contains (if t then o ∷ p ∷ ps else if comes_first p o then p ∷ put_pair o ps else p ∷ ps) o) [
      | true ↦ λ h. in_front o (p ∷ ps)
      | false ↦ λ h. (elim (comes_first p o) as (λ t. comes_first p o ≡ t → Contains (if t then p ∷ put_pair o ps else p ∷ ps) o) [
        | true ↦ λ k. in_rest p (put_pair o ps) o (put_here o ps)
        | false ↦ λ k. subst (Contains (p ∷ ps)) (same o p h k) (in_front p ps)
      ]) refl
    ]) refl

-- ---- the list of a set

rises : (os : List Owned) → Rises comes_first (pairs_of os)
rises [] = tt
rises (o ∷ os) = put_rises o (pairs_of os) (rises os)

to_list : (os : List Owned) (x : Owned) → Contains (pairs_of os) x → Contains os x
to_list [] x has = has
to_list (o ∷ os) x has =
    elim (put_has o (pairs_of os) x has) [
      | inl here ↦ subst (Contains (o ∷ os)) here (in_front o os)
      | inr later ↦ in_rest o os x (to_list os x later)
    ]

to_set : (os : List Owned) (x : Owned) → Contains os x → Contains (pairs_of os) x
to_set [] x has = has
to_set (o ∷ os) x has =
    elim (in_either o os x has) [
      | inl here ↦ subst (Contains (put_pair o (pairs_of os))) here (put_here o (pairs_of os))
      | inr later ↦ put_keeps o (pairs_of os) x (to_set os x later)
    ]

pub a_set : PairsAreASet
a_set = record {
  one = λ os ps to back. one_rising comes_first along strict (pairs_of os) (pairs_of ps) (rises os) (rises ps) (λ x has. to_set ps x (to x (to_list os x has))) (λ x has. to_set os x (back x (to_list ps x has)));
  has = λ os x. (to_list os x, to_set os x);
}
