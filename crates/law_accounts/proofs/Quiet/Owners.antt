-- Where no chain owes a group anything, its settled owners are its owners.
use Rattle.std.proofs.Common.{◌≡◌, ℕ, ◌==◌, ◌&&◌, ◌||◌, Bool, true, false, not, List, [], ◌∷◌, ◌++◌, filter, flat_map, map, Contains, refl, ap, ap₂, sym, ◌∙◌}
use Rattle.std.specs.Prelude.{if◌then◌else◌}
use Rattle.std.specs.List.{list_any}
use Rattle.std.proofs.lemmas.Bool.{true≢false}
use Rattle.fs_change.proofs.Sets.{has_both, has_of, has_passing, has_set, of_has}
use Rattle.fs_change.specs.Chains.{Quiet, given_by, gives, is_quiet, owed_gifts, owed_takings, pending, settled_by, settled_forks, settled_own, taken_by, takes, tuples_of, run_of, word_taken}
use Rattle.fs_state.specs.Claims.{Claimed, claims, fork_claims, metadata_claims}
use Rattle.fs_state.specs.Derive.{mappings}
use Rattle.fs_state.specs.Own.{own, rmap_of, tuple_of}
use Rattle.fs_state.specs.State.{State}
use Rattle.fs_state.specs.declared.intent.Intent.{Intent}
use Rattle.rmap_recs.proofs.RunLemmas.{only_runs}
use Rattle.rmap_recs.specs.Runs.{AreRuns, has, is_same}
use Rattle.rmap_recs.specs.declared.records.RmapRec.{RmapRec}
use Rattle.rmap_recs.specs.declared.tuples.Tuple.{Tuple}
use Rattle.law_accounts.specs.Owner.Told.{AreTold}

not_true : (k : Bool) → not k ≡ true → k ≡ false
not_true true h = absurd (true≢false (sym h))
not_true false h = refl

none_if : (k : Bool) → ◌≡◌ {A = List Tuple} (if k then [] else []) []
none_if true = refl
none_if false = refl

-- an intent of another group gives and takes nothing in this one
gives_none : (g : ℕ) (i : Intent) → (i.group == g) ≡ false → given_by g i ≡ []
gives_none g i e = ap (λ (k : Bool). if gives i.kind then (if k then tuples_of (run_of i i.word) else []) else []) e ∙ none_if (gives i.kind)

takes_none : (g : ℕ) (i : Intent) → (i.group == g) ≡ false → taken_by g i ≡ []
takes_none g i e = ap (λ (k : Bool). if takes i.kind then (if k then tuples_of (run_of i (word_taken i)) else []) else []) e ∙ none_if (takes i.kind)

module _ (g : ℕ) (f : Intent → List Tuple) (none : (i : Intent) → (i.group == g) ≡ false → f i ≡ []) where
  nothing_from : (is : List Intent) → list_any (λ i. i.group == g) is ≡ false → flat_map f is ≡ []
  nothing_from [] h = refl
  nothing_from (i ∷ is) h = by (i.group == g) refl h (nothing_from is)
    where
      by : (k : Bool) → (i.group == g) ≡ k → (k || list_any (λ j. j.group == g) is) ≡ false → (list_any (λ j. j.group == g) is ≡ false → flat_map f is ≡ []) → flat_map f (i ∷ is) ≡ []
      by true e h rest = absurd (true≢false h)
      by false e h rest = ap₂ (λ (xs ys : List Tuple). xs ++ ys) (none i e) (rest h)

no_gifts : (a : State) (g : ℕ) → Quiet a g → owed_gifts a g ≡ []
unfolding is_quiet
no_gifts a g quiet = nothing_from g (given_by g) (gives_none g) (pending a) (not_true (list_any (λ i. i.group == g) (pending a)) quiet)

no_takings : (a : State) (g : ℕ) → Quiet a g → owed_takings a g ≡ []
unfolding is_quiet
no_takings a g quiet = nothing_from g (taken_by g) (takes_none g) (pending a) (not_true (list_any (λ i. i.group == g) (pending a)) quiet)

and_true : (k : Bool) → (k && true) ≡ k
and_true true = refl
and_true false = refl

or_none : (k : Bool) → (k || false) ≡ k
or_none true = refl
or_none false = refl

forks_settled : (a : State) (g : ℕ) → Quiet a g → (t : Tuple) → has (settled_forks a g) t ≡ has (map tuple_of (fork_claims a g)) t
unfolding settled_forks
forks_settled a g quiet t =
    ap₂ (λ (xs ys : List Tuple). has (settled_by xs ys (map tuple_of (fork_claims a g))) t) (no_gifts a g quiet) (no_takings a g quiet)
    ∙ has_set (filter (λ u. not (has [] u)) (map tuple_of (fork_claims a g)) ++ []) t
    ∙ has_both (filter (λ u. not (has [] u)) (map tuple_of (fork_claims a g))) [] t
    ∙ or_none (has (filter (λ u. not (has [] u)) (map tuple_of (fork_claims a g))) t)
    ∙ has_passing (λ u. not (has [] u)) (map tuple_of (fork_claims a g)) t
    ∙ and_true (has (map tuple_of (fork_claims a g)) t)

split : (cs ds : List Claimed) (t : Tuple) → has (map tuple_of (cs ++ ds)) t ≡ (has (map tuple_of cs) t || has (map tuple_of ds) t)
split [] ds t = refl
split (c ∷ cs) ds t = ap (λ (k : Bool). is_same t (tuple_of c) || k) (split cs ds t) ∙ sym (joined (is_same t (tuple_of c)) (has (map tuple_of cs) t) (has (map tuple_of ds) t))
  where
    joined : (x y z : Bool) → ((x || y) || z) ≡ (x || (y || z))
    joined true y z = refl
    joined false y z = refl

own_settled : (a : State) (g : ℕ) → Quiet a g → (t : Tuple) → has (own a g) t ≡ has (settled_own a g) t
unfolding own settled_own claims
own_settled a g quiet t =
    has_set (map tuple_of (claims a g)) t ∙ split (metadata_claims a g) (fork_claims a g) t
    ∙ ap (λ (k : Bool). has (map tuple_of (metadata_claims a g)) t || k) (sym (forks_settled a g quiet t))
    ∙ sym (has_set (map tuple_of (metadata_claims a g) ++ settled_forks a g) t ∙ has_both (map tuple_of (metadata_claims a g)) (settled_forks a g) t)

-- the same owners have the same maximal runs
module _ (ts us : List Tuple) (same : (t : Tuple) → has us t ≡ has ts t) where
  to : (t : Tuple) → Contains ts t → Contains us t
  to t c = of_has us t (same t ∙ has_of ts t c)

  back : (t : Tuple) → Contains us t → Contains ts t
  back t c = of_has ts t (sym (same t) ∙ has_of us t c)

  runs_by : (recs : List RmapRec) → AreRuns ts recs → AreRuns us recs
  runs_by recs runs = record {
    maximal = λ r c. let m = runs.maximal r c in record {
      some = m.some;
      within = λ i lt. to _ (m.within i lt);
      consecutive = m.consecutive;
      first = λ t d. m.first t (back t d);
      last = λ t d. m.last t (back t d);
    };
    all = λ t c. runs.all t (back t c);
    rising = runs.rising;
  }

pub mappings_whole : (a : State) (g : ℕ) → Quiet a g → AreTold a g → AreRuns (own a g) (rmap_of a g) → mappings a g ≡ rmap_of a g
mappings_whole a g quiet told runs = only_runs (own a g) (mappings a g) (rmap_of a g) (runs_by (settled_own a g) (own a g) (own_settled a g quiet) (mappings a g) told) runs
