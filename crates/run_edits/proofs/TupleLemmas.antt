-- All pieces have their tuples, and a test says that no two of them have a common one.
use Rattle.std.proofs.Common.{◌≡◌, ◌<◌, ◌≤◌, ◌⊎◌, ◌+◌, ◌==◌, ◌&&◌, ◌||◌, Bool, true, false, not, ℕ, zero, suc, List, [], ◌∷◌, Contains, refl, ap, sym, ◌∙◌, subst, inl, inr, arith}
use Rattle.std.specs.Prelude.{nat_le}
use Rattle.std.specs.List.{list_all}
use Rattle.std.proofs.lemmas.Bool.{false≢true, cases_lt}
use Rattle.std.proofs.lemmas.Bool.Decides.{nat_tests}
use Rattle.rmap_recs.specs.Runs.{tuple_at}
use Rattle.rmap_recs.specs.declared.records.RmapRec.{RmapRec}
use Rattle.rmap_recs.specs.declared.tuples.Tuple.{Tuple}
use Rattle.rmap_recs.proofs.RisingLemmas.{nothing_in, in_front, in_rest, in_either}
use Rattle.run_edits.specs.EditLaws.{IsOf}
use Rattle.run_edits.specs.Pieces.{with_tuples, tuples_of, is_apart, are_apart, PiecesByTests, PiecesHaveTuples}

with_rest : (p : RmapRec) (n : ℕ) (ts : List Tuple) (t : Tuple) → Contains ts t → Contains (with_tuples p n ts) t
unfolding with_tuples
with_rest p zero ts t c = c
with_rest p (suc n) ts t c = in_rest (tuple_at p n) (with_tuples p n ts) t (with_rest p n ts t c)

with_own : (p : RmapRec) (n : ℕ) (ts : List Tuple) (i : ℕ) → i < n → Contains (with_tuples p n ts) (tuple_at p i)
unfolding with_tuples
with_own p zero ts i below = absurd (omega (arith, below))
with_own p (suc n) ts i below = elim (cases_lt i n) [
  | inl less ↦ in_rest (tuple_at p n) (with_tuples p n ts) (tuple_at p i) (with_own p n ts i less)
  | inr most ↦
      let same : n ≡ i = omega (arith, below, most) in
      subst (λ (k : ℕ). Contains (tuple_at p n ∷ with_tuples p n ts) (tuple_at p k)) same (in_front (tuple_at p n) (with_tuples p n ts))
]

with_only : (p : RmapRec) (n : ℕ) (ts : List Tuple) (t : Tuple) → Contains (with_tuples p n ts) t → ((i : ℕ) × (i < n) × (tuple_at p i ≡ t)) ⊎ Contains ts t
unfolding with_tuples
with_only p zero ts t c = inr c
with_only p (suc n) ts t c = elim (in_either (tuple_at p n) (with_tuples p n ts) t c) [
  | inl same ↦ inl (n, omega arith, same)
  | inr later ↦ elim (with_only p n ts t later) [
    | inl own ↦ inl (own.0, let below = own.1 in omega (arith, below), own.2)
    | inr rest ↦ inr rest
  ]
]

has_all : (pieces : List RmapRec) (p : RmapRec) → Contains pieces p → (t : Tuple) → IsOf p t → Contains (tuples_of pieces) t
unfolding tuples_of
has_all [] p c t of = absurd (nothing_in p c)
has_all (x ∷ xs) p c t of = elim (in_either x xs p c) [
  | inl same ↦
      let own : IsOf x t = subst (λ (r : RmapRec). IsOf r t) (sym same) of in
      subst (Contains (with_tuples x x.count (tuples_of xs))) own.2 (with_own x x.count (tuples_of xs) own.0 own.1)
  | inr later ↦ with_rest x x.count (tuples_of xs) t (has_all xs p later t of)
]

only_all : (pieces : List RmapRec) (t : Tuple) → Contains (tuples_of pieces) t → (p : RmapRec) × Contains pieces p × IsOf p t
unfolding tuples_of
only_all [] t c = absurd (nothing_in t c)
only_all (x ∷ xs) t c = elim (with_only x x.count (tuples_of xs) t c) [
  | inl own ↦ (x, in_front x xs, own)
  | inr rest ↦ let on = only_all xs t rest in (on.0, in_rest x xs on.0 on.1, on.2)
]

pub have_tuples : PiecesHaveTuples
have_tuples pieces = record { has = has_all pieces; only = only_all pieces }

-- ---- records that are told apart by their owners and blocks

both : (a b : Bool) → (a && b) ≡ true → (a ≡ true) × (b ≡ true)
both true b h = (refl, h)
both false b h = absurd (false≢true h)

three : (a b c : Bool) → (a || b || c) ≡ true → (a ≡ true) ⊎ ((b ≡ true) ⊎ (c ≡ true))
three true b c h = inl refl
three false true c h = inr (inl refl)
three false false c h = inr (inr h)

not_same : (a b : ℕ) → not (a == b) ≡ true → a ≡ b → ⊥
not_same a b h e = grind (arith, nat_tests)

up_to : (a b : ℕ) → nat_le a b ≡ true → a ≤ b
up_to a b h = grind (arith, nat_tests)

nothing_common : (p q : RmapRec) → is_apart p q ≡ true → (t : Tuple) → IsOf p t → IsOf q t → ⊥
nothing_common p q h t one two =
    let on : tuple_at p one.0 ≡ tuple_at q two.0 = one.2 ∙ sym two.2 in
    let owners : p.owner ≡ q.owner = ap (λ (u : Tuple). u.owner) on in
    let blocks : p.start + one.0 ≡ q.start + two.0 = ap (λ (u : Tuple). u.block) on in
    let below = one.1 in
    let under = two.1 in
    elim (three (not (p.owner == q.owner)) (nat_le (p.start + p.count) q.start) (nat_le (q.start + q.count) p.start) h) [
      | inl other ↦ not_same p.owner q.owner other owners
      | inr rest ↦ elim rest [
        | inl first ↦ let le = up_to (p.start + p.count) q.start first in omega (arith, blocks, below, under, le)
        | inr second ↦ let le = up_to (q.start + q.count) p.start second in omega (arith, blocks, below, under, le)
      ]
    ]

apart_each : (p : RmapRec) (ps : List RmapRec) → list_all (is_apart p) ps ≡ true → (q : RmapRec) → Contains ps q → is_apart p q ≡ true
apart_each p [] h q c = absurd (nothing_in q c)
apart_each p (x ∷ xs) h q c =
    let parts = both (is_apart p x) (list_all (is_apart p) xs) h in
    elim (in_either x xs q c) [
      | inl same ↦ subst (λ (r : RmapRec). is_apart p r ≡ true) same parts.0
      | inr later ↦ apart_each p xs parts.1 q later
    ]

apart_all : (pieces : List RmapRec) → are_apart pieces ≡ true → (p q : RmapRec) → Contains pieces p → Contains pieces q → (t : Tuple) → IsOf p t → IsOf q t → p ≡ q
apart_all [] h p q c d t one two = absurd (nothing_in p c)
apart_all (x ∷ xs) h p q c d t one two =
    let parts = both (list_all (is_apart x) xs) (are_apart xs) h in
    elim (in_either x xs p c) [
      | inl p_first ↦ elim (in_either x xs q d) [
        | inl q_first ↦ sym p_first ∙ q_first
        | inr q_later ↦ absurd (nothing_common x q (apart_each x xs parts.0 q q_later) t (subst (λ (r : RmapRec). IsOf r t) (sym p_first) one) two)
      ]
      | inr p_later ↦ elim (in_either x xs q d) [
        | inl q_first ↦ absurd (nothing_common x p (apart_each x xs parts.0 p p_later) t (subst (λ (r : RmapRec). IsOf r t) (sym q_first) two) one)
        | inr q_later ↦ apart_all xs parts.1 p q p_later q_later t one two
      ]
    ]

pub by_tests : PiecesByTests
by_tests pieces rising rooms apart = record { rising = rising; rooms = rooms; apart = apart_all pieces apart }
