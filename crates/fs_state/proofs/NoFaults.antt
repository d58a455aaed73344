-- What it means that a unit has no faults.
use Rattle.std.proofs.Common.{◌≡◌, ℕ, List, [], ◌∷◌, ◌++◌, Option, Some, None, refl, ap, ◌∙◌, inl, inr}
use Rattle.std.specs.Prelude.{◌==◌, flat_map}
use Rattle.std.proofs.lemmas.Bool.{eqb-true, eq-eqb, cases_Bool}
use Rattle.fs_model.specs.declared.fault.Counter.{Counter}
use Rattle.fs_model.specs.declared.fault.Fault.{Fault}
use Rattle.fs_model.specs.declared.fault.Fault.TheVariants as faulty
use Rattle.sblock.specs.Blocks.{IsRising}
use Rattle.sblock.specs.declared.kind.Kind.{Kind}
use Rattle.xref_scrub.proofs.DifferenceLemmas.{none_exactly_if_equal}
use Rattle.fs_state.specs.Kinds.{RecOf, form_of}
use Rattle.fs_state.specs.State.{State, Reading, Readable, Unreadable, recs_of}
use Rattle.fs_state.proofs.Trees.{lawful_of}
use Rattle.fs_state.specs.Derive.{derive}
use Rattle.fs_state.specs.Faults.{index_faults, counter_fault, faults_of_kind, faults_of_counter, wanted, faults}
use Rattle.fs_state.specs.Records.{shown_of, kinds_of, counters_of}
use Rattle.fs_state.specs.Laws.{IsGoodTree, IsGoodCounter, EachTree, EachCounter, DoRise, NoFaultsExactly}

-- ---- one tree

no_fault : (f : Fault) → ◌≡◌ {A = List Fault} (f ∷ []) [] → ⊥
no_fault f e = cc

good_from : (k : Kind) (derived : List (RecOf k)) (read : Reading (RecOf k)) → IsRising (form_of k) (recs_of read) → IsRising (form_of k) derived → index_faults k derived read ≡ [] → (blocks : List ℕ) × (read ≡ Readable derived blocks)
good_from k derived (Readable recs blocks) rises derives none =
    (blocks, ap (λ (rs : List (RecOf k)). Readable rs blocks) ((none_exactly_if_equal (form_of k) (lawful_of k) (shown_of k) recs derived rises derives).0 none))
good_from k derived (Unreadable block fault claims) rises derives none = absurd (no_fault (faulty.Block k block fault) none)

good_to : (k : Kind) (derived : List (RecOf k)) (read : Reading (RecOf k)) → IsRising (form_of k) derived → (blocks : List ℕ) → read ≡ Readable derived blocks → index_faults k derived read ≡ []
good_to k derived read derives blocks e =
    ap (index_faults k derived) e ∙ (none_exactly_if_equal (form_of k) (lawful_of k) (shown_of k) derived derived derives derives).1 refl

-- ---- one counter

none_some : (n : ℕ) → ◌≡◌ {A = Option ℕ} None (Some n) → ⊥
none_some n e = cc

some_same : (m n : ℕ) → ◌≡◌ {A = Option ℕ} (Some m) (Some n) → m ≡ n
some_same m n e = cc

counter_from : (name : Counter) (found : ℕ) (number : Option ℕ) → counter_fault name found number ≡ [] → (n : ℕ) → number ≡ Some n → found ≡ n
counter_from name found None none n e = absurd (none_some n e)
counter_from name found (Some m) none n e =
    elim (cases_Bool (found == m)) [
      | inl same ↦ eqb-true found m same ∙ some_same m n e
      | inr other ↦ let fault = rw other at none in absurd (no_fault (faulty.Counter name found m) fault)
    ]

counter_to : (name : Counter) (found : ℕ) (number : Option ℕ) → ((n : ℕ) → number ≡ Some n → found ≡ n) → counter_fault name found number ≡ []
counter_to name found None good = refl
counter_to name found (Some m) good = rw (eq-eqb found m (good m refl)) refl

-- ---- lists of them

some_left : (x : Fault) (xs : List Fault) → x ∷ xs ≡ [] → ⊥
some_left x xs e = cc

left_none : (xs ys : List Fault) → xs ++ ys ≡ [] → xs ≡ []
left_none [] ys e = refl
left_none (x ∷ xs) ys e = absurd (some_left x (xs ++ ys) e)

right_none : (xs ys : List Fault) → xs ++ ys ≡ [] → ys ≡ []
right_none [] ys e = e
right_none (x ∷ xs) ys e = absurd (some_left x (xs ++ ys) e)

both_none : (xs ys : List Fault) → xs ≡ [] → ys ≡ [] → xs ++ ys ≡ []
both_none xs ys e f = rw (e, f) refl

module _ (a : State) (g : ℕ) where
  trees_from : (ks : List Kind) → EachTree (DoRise a g) ks → flat_map (faults_of_kind a g) ks ≡ [] → EachTree (IsGoodTree a g) ks
  trees_from [] rise none = tt
  trees_from (k ∷ ks) rise none = (
    good_from k (derive a g k) ((a.group g).tree k).reading rise.0.0 rise.0.1 (left_none (faults_of_kind a g k) (flat_map (faults_of_kind a g) ks) none),
    trees_from ks rise.1 (right_none (faults_of_kind a g k) (flat_map (faults_of_kind a g) ks) none),
  )

  trees_to : (ks : List Kind) → EachTree (DoRise a g) ks → EachTree (IsGoodTree a g) ks → flat_map (faults_of_kind a g) ks ≡ []
  trees_to [] rise good = refl
  trees_to (k ∷ ks) rise good =
      both_none (faults_of_kind a g k) (flat_map (faults_of_kind a g) ks)
      (good_to k (derive a g k) ((a.group g).tree k).reading rise.0.1 good.0.0 good.0.1)
      (trees_to ks rise.1 good.1)

  counters_from : (cs : List Counter) → flat_map (faults_of_counter a g) cs ≡ [] → EachCounter (IsGoodCounter a g) cs
  counters_from [] none = tt
  counters_from (c ∷ cs) none = (
    counter_from c ((a.group g).counters c) (wanted a g c) (left_none (faults_of_counter a g c) (flat_map (faults_of_counter a g) cs) none),
    counters_from cs (right_none (faults_of_counter a g c) (flat_map (faults_of_counter a g) cs) none),
  )

  counters_to : (cs : List Counter) → EachCounter (IsGoodCounter a g) cs → flat_map (faults_of_counter a g) cs ≡ []
  counters_to [] good = refl
  counters_to (c ∷ cs) good =
      both_none (faults_of_counter a g c) (flat_map (faults_of_counter a g) cs)
      (counter_to c ((a.group g).counters c) (wanted a g c) good.0)
      (counters_to cs good.1)

pub no_faults_exactly : NoFaultsExactly
unfolding faults
no_faults_exactly a g unit rise = (
  λ none. (
    trees_from a g (kinds_of unit) rise (left_none (flat_map (faults_of_kind a g) (kinds_of unit)) (flat_map (faults_of_counter a g) (counters_of unit)) none),
    counters_from a g (counters_of unit) (right_none (flat_map (faults_of_kind a g) (kinds_of unit)) (flat_map (faults_of_counter a g) (counters_of unit)) none),
  ),
  λ good. both_none (flat_map (faults_of_kind a g) (kinds_of unit)) (flat_map (faults_of_counter a g) (counters_of unit)) (trees_to a g (kinds_of unit) rise good.0) (counters_to a g (counters_of unit) good.1),
)
