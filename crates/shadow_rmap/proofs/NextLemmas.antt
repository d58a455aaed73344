-- The first run behind a key.
use Rattle.std.proofs.Common.{◌≡◌, ◌<◌, ◌≤◌, ℕ, zero, suc, Bool, true, false, not, cond, List, [], ◌∷◌, length, get_or, Contains, Option, Some, None, find, refl, sym, ◌∙◌, subst, inl, inr, arith}
use Rattle.std.specs.List.Sorted.{IsPartitionedBy, IsPartitionPoint}
use Rattle.std.proofs.lemmas.Bool.{false≢true, cases_lt}
use Rattle.sblock.specs.Lists.{Rises}
use Rattle.rmap_recs.specs.Rmap.{key_of}
use Rattle.rmap_recs.specs.RmapLaws.{lawful_rmap}
use Rattle.rmap_recs.specs.Runs.{AreRuns, IsRun, tuple_at}
use Rattle.rmap_recs.specs.declared.records.Key.{Key}
use Rattle.rmap_recs.specs.declared.records.RmapRec.{RmapRec}
use Rattle.rmap_recs.specs.declared.tuples.Tuple.{Tuple}
use Rattle.rmap_recs.proofs.RisingLemmas.{before_later, before_rest, found_by_find, none_by_find, in_either, false_by}
use Rattle.run_edits.specs.Edits.{AreSorted, is_before}
use Rattle.run_edits.proofs.ChainLemmas.{share}
use Rattle.shadow_rmap.specs.Kept.{is_behind, first_behind, NextRun}

abbrev not_after : RmapRec → RmapRec → Bool
not_after a b = not (is_before b a)

by_not : (b : Bool) → not b ≡ true → b ≡ true → ⊥
by_not true h k = false≢true h
by_not false h k = false≢true k

not_by : (b : Bool) → (b ≡ true → ⊥) → not b ≡ true
not_by true h = absurd (h refl)
not_by false h = refl

along : (a b c : RmapRec) → not_after a b ≡ true → not_after b c ≡ true → not_after a c ≡ true
along a b c h k = not_by (is_before c a) (λ before. elim (lawful_rmap.total (key_of c) (key_of b) (key_of a) before) [
  | inl one ↦ by_not (is_before c b) k one
  | inr other ↦ by_not (is_before b a) h other
])

-- what comes behind the key stays behind it further on
on_behind : (after : Option Key) (a b : RmapRec) → not_after a b ≡ true → is_behind after a ≡ true → is_behind after b ≡ true
on_behind None a b h behind = refl
on_behind (Some key) a b h behind = elim (lawful_rmap.total key (key_of b) (key_of a) behind) [
  | inl before ↦ before
  | inr other ↦ absurd (by_not (is_before b a) h other)
]

not_false : (b : Bool) → not b ≡ false → b ≡ true
not_false true h = refl
not_false false h = absurd (false≢true (sym h))

pub parted : (after : Option Key) (recs : List RmapRec) → AreSorted recs → IsPartitionedBy (λ r. not (is_behind after r)) recs
parted after recs sorted i j d order within passes = elim (cases_lt i j) [
  | inl below ↦ not_by (is_behind after (get_or recs i d)) (λ behind. by_not (is_behind after (get_or recs j d)) passes (on_behind after (get_or recs i d) (get_or recs j d) (before_later not_after along recs sorted i j d below within) behind))
  | inr above ↦ let same : j ≡ i = omega (arith, order, above) in subst (λ (n : ℕ). not (is_behind after (get_or recs n d)) ≡ true) same passes
]

abbrev pub Point : Option Key → List RmapRec → ℕ → Type 0
Point after recs place = IsPartitionPoint (λ r. not (is_behind after r) ≡ true) (λ r. not (is_behind after r) ≡ false) recs place

none_less : (n : ℕ) → n ≤ 0 → n ≡ 0
none_less n h = omega (arith, h)

pub none_behind : (after : Option Key) (recs : List RmapRec) (place : ℕ) → length recs ≤ place → Point after recs place → first_behind after recs ≡ None
none_behind after [] place bound point = refl
none_behind after (x ∷ xs) zero bound point = absurd (omega (arith, bound))
none_behind after (x ∷ xs) (suc n) bound point =
    let before : is_behind after x ≡ false = false_by (is_behind after x) (by_not (is_behind after x) (point.0 0 x (omega arith) (omega arith))) in
    rw before (none_behind after xs n (omega (arith, bound)) ((λ k d inside below. point.0 (suc k) d (omega (arith, inside)) (omega (arith, below))), (λ k d inside above. point.1 (suc k) d (omega (arith, inside)) (omega (arith, above)))))

pub one_behind : (after : Option Key) (recs : List RmapRec) (place : ℕ) (d : RmapRec) → place < length recs → Point after recs place → Some (get_or recs place d) ≡ first_behind after recs
one_behind after [] place d bound point = absurd (omega (arith, bound))
one_behind after (x ∷ xs) zero d bound point =
    let here : is_behind after x ≡ true = not_false (is_behind after x) (point.1 0 x (omega arith) (omega arith)) in
    rw here refl
one_behind after (x ∷ xs) (suc n) d bound point =
    let before : is_behind after x ≡ false = false_by (is_behind after x) (by_not (is_behind after x) (point.0 0 x (omega arith) (omega arith))) in
    rw before (one_behind after xs n d (omega (arith, bound)) ((λ k e inside below. point.0 (suc k) e (omega (arith, inside)) (omega (arith, below))), (λ k e inside above. point.1 (suc k) e (omega (arith, inside)) (omega (arith, above)))))

-- ---- among the maximal runs of tuples

forward : (a b c : RmapRec) → is_before a b ≡ true → is_before b c ≡ true → is_before a c ≡ true
forward a b c = lawful_rmap.along (key_of a) (key_of b) (key_of c)

not_before_head : (x : RmapRec) (xs : List RmapRec) → Rises is_before (x ∷ xs) → (s : RmapRec) → Contains (x ∷ xs) s → is_before s x ≡ false
not_before_head x xs rises s c = elim (in_either x xs s c) [
  | inl same ↦ subst (λ (y : RmapRec). is_before y x ≡ false) same (lawful_rmap.strict (key_of x))
  | inr later ↦ false_by (is_before s x) (λ h. false≢true (sym (lawful_rmap.strict (key_of x)) ∙ forward x s x (before_rest is_before forward x xs rises s later) h))
]

module _ (ts : List Tuple) (recs : List RmapRec) (runs : AreRuns ts recs) (after : Option Key) where
  -- each maximal run is one of them
  is_there : (s : RmapRec) → IsRun ts s → Contains recs s
  is_there s run =
      let hit = runs.all (tuple_at s 0) (run.within 0 run.some) in
      let same : s ≡ hit.0 = share ts s hit.0 run (runs.maximal hit.0 hit.2) 0 hit.1 run.some hit.3 (sym hit.4) in
      subst (Contains recs) (sym same) hit.2

  -- the first one that passes doesn't come behind another that does
  first_of_all : (xs : List RmapRec) → Rises is_before xs → (r s : RmapRec) → find (is_behind after) xs ≡ Some r → Contains xs s → is_behind after s ≡ true → is_before s r ≡ false
  first_of_all [] rises r s found c behind = cc
  first_of_all (x ∷ xs) rises r s found c behind = (elim (is_behind after x) as (λ b. is_behind after x ≡ b → cond b (Some x) (find (is_behind after) xs) ≡ Some r → is_before s r ≡ false) [
    | true ↦ λ here is. let same : x ≡ r = cc in subst (λ (y : RmapRec). is_before s y ≡ false) same (not_before_head x xs rises s c)
    | false ↦ λ other is. elim (in_either x xs s c) [
      | inl same ↦ absurd (false≢true (sym other ∙ subst (λ (y : RmapRec). is_behind after y ≡ true) (sym same) behind))
      | inr later ↦ first_of_all xs rises.1 r s is later behind
    ]
  ]) refl found

  pub next_is : (result : Option RmapRec) → result ≡ first_behind after recs → NextRun ts after result
  next_is None is = λ s run. none_by_find (is_behind after) recs s (sym is) (is_there s run)
  next_is (Some r) is =
      let at = found_by_find (is_behind after) recs r (sym is) in
      record {
        run = runs.maximal r at.0;
        behind = at.1;
        first = λ s run behind. first_of_all recs runs.rising r s (sym is) (is_there s run) behind;
      }
