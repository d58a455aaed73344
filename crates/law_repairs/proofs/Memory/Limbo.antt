-- Limbo is a set: a block that waits with one owner alone stands there once.
use Rattle.std.proofs.Common.{◌≡◌, ℕ, ◌≤◌, ◌==◌, Bool, true, false, cond, not, List, [], ◌∷◌, Contains, filter, refl, ap, sym, subst, ◌∙◌, inl, inr, arith, eqb-true, eq-eqb}
use Rattle.std.specs.Prelude.{if◌then◌else◌}
use Rattle.std.proofs.lemmas.Bool.{cases_Bool, cases_lt}
use Rattle.fs_change.specs.Switch.{owned_by}
use Rattle.fs_state.specs.Frame.{PairsAreASet}
use Rattle.fs_state.specs.State.{Owned, blocks_in, pairs_of}
use Rattle.law_repairs.proofs.Move.Pairs.{Among, with_block}
use Rattle.law_repairs.proofs.Order.Tidy.{pairs_less}
use Rattle.rmap_recs.proofs.RisingLemmas.{filtered, in_either, in_front, in_rest, kept_by_filter, nothing_in}
use Rattle.tree_defs.specs.Lists.{times}

among_has : (o : Owned) (os : List Owned) → Among o os → Contains os o
among_has o [] i = absurd i
among_has o (p ∷ ps) (inl e) = subst (Contains (p ∷ ps)) e (in_front p ps)
among_has o (p ∷ ps) (inr i) = in_rest p ps o (among_has o ps i)

has_among : (o : Owned) (os : List Owned) → Contains os o → Among o os
has_among o [] c = absurd (nothing_in o c)
has_among o (p ∷ ps) c = elim (in_either p ps o c) [ inl e ↦ inl e | inr later ↦ inr (has_among o ps later) ]

module _ (sets : PairsAreASet) (os : List Owned) (b w : ℕ) (alone : (o : Owned) → Among o (pairs_of os) → o.block ≡ b → o.owner ≡ w) where
  abbrev is_other : Owned → Bool
  is_other o = not (o.block == b)

  -- the same pairs, that of the block once
  abbrev sieved : List Owned
  sieved = owned_by w b ∷ filter is_other os

  it_is : (o : Owned) → Contains os o → o.block ≡ b → o ≡ owned_by w b
  it_is o c e = let is : o.owner ≡ w = alone o (has_among o (pairs_of os) ((sets.has os o).1 c)) e in λ i. record { block = e i; owner = is i }

  to_sieved : (o : Owned) → Contains os o → Contains sieved o
  to_sieved o c = elim (cases_Bool (o.block == b)) [
    | inl same ↦ subst (Contains sieved) (sym (it_is o c (eqb-true o.block b same))) (in_front (owned_by w b) (filter is_other os))
    | inr other ↦ in_rest (owned_by w b) (filter is_other os) o (kept_by_filter is_other os o c (ap not other))
  ]

  from_sieved : (found : Owned) → Contains os found → found.block ≡ b → (o : Owned) → Contains sieved o → Contains os o
  from_sieved found there at o c = elim (in_either (owned_by w b) (filter is_other os) o c) [
    | inl same ↦ subst (Contains os) (it_is found there at ∙ same) there
    | inr later ↦ (filtered is_other os o later).0
  ]

  none_left : (xs : List Owned) → times b (blocks_in (filter is_other xs)) ≡ 0
  none_left [] = refl
  none_left (x ∷ xs) = let rest = none_left xs in (elim (x.block == b) as (λ t. (x.block == b) ≡ t → times b (blocks_in (cond (not t) (x ∷ filter is_other xs) (filter is_other xs))) ≡ 0) [
    | true ↦ λ e. rest
    | false ↦ λ e. let none : ◌≡◌ {A = ℕ} (if x.block == b then 1 else 0) 0 = rw e refl in omega (arith, none, rest)
  ]) refl

  pub once_by_owner : times b (blocks_in (pairs_of os)) ≤ 1
  once_by_owner = elim (cases_lt (times b (blocks_in os)) 1) [
    | inl none ↦ let less = pairs_less b os in omega (arith, less, none)
    | inr some ↦
        let found = with_block b os some in
        let same : pairs_of os ≡ pairs_of sieved = sets.one os sieved to_sieved (from_sieved found.0 (among_has found.0 os found.1) found.2) in
        let is : times b (blocks_in (pairs_of os)) ≡ times b (blocks_in (pairs_of sieved)) = ap (λ (xs : List Owned). times b (blocks_in xs)) same in
        let less = pairs_less b sieved in
        let none = none_left os in
        let one : ◌≡◌ {A = ℕ} (if b == b then 1 else 0) 1 = rw (eq-eqb b b refl) refl in
        omega (arith, is, less, none, one)
  ]
