-- The rules over groups and the steps' are the same.
use Rattle.std.proofs.Common.{◌≡◌, ℕ, suc, ◌+◌, ◌-◌, ◌<◌, Bool, true, false, not, ◌&&◌, ◌||◌, List, [], ◌∷◌, ◌++◌, length, Option, Some, None, refl, sym, ap, ◌∙◌, subst, arith}
use Rattle.std.specs.Prelude.{◌==◌, nat_le, nat_lt, min, map, filter, find, is_none, option_map, reverse, if◌then◌else◌}
use Rattle.std.specs.List.{flat_map, list_any, sum_by}
use Rattle.std.specs.Option.{option_map_or, option_or}
use Rattle.std.proofs.lemmas.Bool.Decides.{nat_tests}
use Rattle.std.proofs.lemmas.List.{reverse-append}
use Rattle.std.proofs.lemmas.List.Sums.{sum_by-cons}
use Rattle.std.proofs.Math.Nat.{min_comm}
use Rattle.fs_model.specs.declared.entry.Extent.{Extent}
use Rattle.fs_state.specs.State.{State}
use Rattle.fs_state.specs.declared.intent.Intent.{Intent}
use Rattle.span_recs.specs.declared.refcount.RefcRec.{RefcRec}
use Rattle.span_recs.specs.declared.span.SpanRec.{SpanRec}
use Rattle.sblock.specs.declared.kind.Kind.TheVariants.{Cnt}
use Rattle.defer_chain.specs.Steps.{counted_in, owed_to}
use Rattle.defer_chain.specs.Stretch as rule
use Rattle.defer_chain.specs.declared.chain.Chain.{Chain}
use Rattle.free_space.specs.Choice.{choice, chosen, fit_in, last_in, refusal, lowest_closed, lowest_sick, has_large}
use Rattle.free_space.specs.Choice as choices
use Rattle.free_space.specs.declared.choice.GroupSpace.{GroupSpace}
use Rattle.free_space.specs.declared.choice.NoRun.{NoRun}
use Rattle.intent_drain.specs.Chains.{chain_at, count_in, owed_by}
use Rattle.fs_state.specs.Lists.{numbers}
use Rattle.fs_change.specs.Chains.{is_quiet, pending}
use Rattle.fs_change.specs.Choice.{chosen_of, extent, first_in, fitting, front_in, is_usable, last_of, space_kinds}
use Rattle.fs_change.specs.Parts.{records_in, sick_in}
use Rattle.fs_change.specs.Records as step
use Rattle.fs_change.specs.Records.{count_at, stretch}
use Rattle.rule_laws.specs.Groups.{ChoosesAlike, CountsAlike, QuietAlike, next_start, owed_of, run_in, space_of}

-- ---- a run of free space

none_found : {A : Type 0} (f : A → Bool) (xs : List A) → is_none (find f xs) ≡ not (list_any f xs)
none_found f [] = refl
none_found f (x ∷ xs) = by_test (f x) (none_found f xs)
  where
    by_test : (t : Bool) → is_none (find f xs) ≡ not (list_any f xs) → is_none (if t then Some x else find f xs) ≡ not (t || list_any f xs)
    by_test true later = refl
    by_test false later = later

and_true : (b : Bool) → (b && true) ≡ b
and_true true = refl
and_true false = refl

min_swap : (a b : ℕ) → min a b ≡ min b a
min_swap a b = min_comm a b

chosen_is : (o : Option Extent) (why : NoRun) → run_in (chosen o why) ≡ o
chosen_is None why = refl
chosen_is (Some e) why = refl

module _ (a : State) (gates : ℕ → Bool) (wanted : ℕ) where
  usable_alike : (g : ℕ) → choices.is_usable (space_of a gates wanted g) ≡ is_usable a gates space_kinds g
  usable_alike g = and_true (gates g && is_none (find (sick_in (a.group g)) space_kinds)) ∙ ap (λ (b : Bool). gates g && b) (none_found (sick_in (a.group g)) space_kinds)

  extent_alike : (g : ℕ) (o : Option SpanRec) → option_map (choices.extent_of (space_of a gates wanted g) wanted) o ≡ option_map (λ (r : SpanRec). extent g r.start (min wanted r.count)) o
  extent_alike g None = refl
  extent_alike g (Some r) = ap (λ (n : ℕ). Some (extent g r.start n)) (min_swap r.count wanted)

  gives_alike : (pick : List SpanRec → Option SpanRec) (g : ℕ) → (if choices.is_usable (space_of a gates wanted g) then option_map (choices.extent_of (space_of a gates wanted g) wanted) (pick (records_in (a.group g) Cnt)) else None)
      ≡ (if is_usable a gates space_kinds g then front_in a wanted pick g else None)
  gives_alike pick g =
      ap (λ (b : Bool). if b then option_map (choices.extent_of (space_of a gates wanted g) wanted) (pick (records_in (a.group g) Cnt)) else None) (usable_alike g)
      ∙ ap (λ (o : Option Extent). if is_usable a gates space_kinds g then o else None) (extent_alike g (pick (records_in (a.group g) Cnt)))

  first_alike : (f : GroupSpace → Option Extent) (h : ℕ → Option Extent) → ((g : ℕ) → f (space_of a gates wanted g) ≡ (if is_usable a gates space_kinds g then h g else None))
      → (gs : List ℕ) → choices.first_in f (map (space_of a gates wanted) gs) ≡ first_in h (filter (is_usable a gates space_kinds) gs)
  first_alike f h same [] = refl
  first_alike f h same (g ∷ gs) =
      ap (λ (o : Option Extent). option_or o (choices.first_in f (map (space_of a gates wanted) gs))) (same g)
      ∙ by_test (is_usable a gates space_kinds g) (first_alike f h same gs)
    where
      by_test : (t : Bool) → choices.first_in f (map (space_of a gates wanted) gs) ≡ first_in h (filter (is_usable a gates space_kinds) gs)
          → option_or (if t then h g else None) (choices.first_in f (map (space_of a gates wanted) gs)) ≡ first_in h (if t then g ∷ filter (is_usable a gates space_kinds) gs else filter (is_usable a gates space_kinds) gs)
      by_test true later = ap (option_or (h g)) later
      by_test false later = later

pub chooses_alike : ChoosesAlike
unfolding choice chosen_of
chooses_alike a gates wanted gs =
    let spaces = map (space_of a gates wanted) gs in
    chosen_is (option_or (choices.first_in (fit_in wanted) spaces) (choices.first_in (last_in wanted) spaces)) (refusal (lowest_closed spaces) (lowest_sick spaces) (list_any has_large spaces))
    ∙ ap (λ (o : Option Extent). option_or o (choices.first_in (last_in wanted) spaces)) (first_alike a gates wanted (fit_in wanted) (front_in a wanted (fitting wanted)) (gives_alike a gates wanted (fitting wanted)) gs)
    ∙ ap (option_or (first_in (front_in a wanted (fitting wanted)) (filter (is_usable a gates space_kinds) gs))) (first_alike a gates wanted (last_in wanted) (front_in a wanted last_of) (gives_alike a gates wanted last_of) gs)

-- ---- a stretch of one count

find_append : (f : RefcRec → Bool) (xs ys : List RefcRec) → find f (xs ++ ys) ≡ option_or (find f xs) (find f ys)
find_append f [] ys = refl
find_append f (x ∷ xs) ys = by_test (f x) (find_append f xs ys)
  where
    by_test : (t : Bool) → find f (xs ++ ys) ≡ option_or (find f xs) (find f ys) → (if t then Some x else find f (xs ++ ys)) ≡ option_or (if t then Some x else find f xs) (find f ys)
    by_test true later = refl
    by_test false later = later

last_alike : (b : ℕ) (rs : List RefcRec) → rule.last_at b rs ≡ step.last_at (λ (r : RefcRec). r.start) b rs
last_alike b [] = refl
last_alike b (r ∷ rs) =
    ap (λ (o : Option RefcRec). option_or o (if nat_le r.start b then Some r else None)) (last_alike b rs)
    ∙ sym (find_append (λ (x : RefcRec). nat_le x.start b) (reverse rs) (r ∷ []))
    ∙ ap (find (λ (x : RefcRec). nat_le x.start b)) (sym (reverse-append (r ∷ []) rs))

where_alike : (b : ℕ) (o : Option RefcRec) → rule.reaching b o ≡ step.only_where (λ (r : RefcRec). nat_lt b (step.refc_end r)) o
where_alike b None = refl
where_alike b (Some r) = refl

counter_alike : (rs : List RefcRec) (b : ℕ) → rule.counter_of rs b ≡ step.counter_of rs b
counter_alike rs b = ap (rule.reaching b) (last_alike b rs) ∙ where_alike b (step.last_at (λ (r : RefcRec). r.start) b rs)

none_none : (b n : ℕ) → n ≡ min n (min (b + n) (b + n) - b)
none_none b n = omega arith

some_none : (b n e : ℕ) → min n (e - b) ≡ min n (min e (b + n) - b)
some_none b n e = omega arith

none_some : (b n s : ℕ) → min n (s - b) ≡ min n (min (b + n) s - b)
none_some b n s = omega arith

some_some : (b n e s : ℕ) → min (min n (e - b)) (s - b) ≡ min n (min e s - b)
some_some b n e s = omega arith

stretch_by : (b n : ℕ) (c next : Option RefcRec) → rule.stretch_count b n c (option_map (λ (r : RefcRec). r.start) next) ≡ min n (min (option_map_or step.refc_end c (b + n)) (option_map_or (λ (r : RefcRec). r.start) next (b + n)) - b)
stretch_by b n None None = none_none b n
stretch_by b n (Some r) None = some_none b n (step.refc_end r)
stretch_by b n None (Some s) = none_some b n s.start
stretch_by b n (Some r) (Some s) = some_some b n (step.refc_end r) s.start

stretch_alike : (rs : List RefcRec) (b n : ℕ) → rule.stretch_count b n (rule.counter_of rs b) (next_start rs b) ≡ stretch rs b n
unfolding stretch
stretch_alike rs b n = ap (λ (c : Option RefcRec). rule.stretch_count b n c (next_start rs b)) (counter_alike rs b) ∙ stretch_by b n (step.counter_of rs b) (find (λ (r : RefcRec). nat_lt b r.start) rs)

owners_alike : (rs : List RefcRec) (b : ℕ) → rule.owners_of (rule.counter_of rs b) ≡ count_at rs b
unfolding count_at
owners_alike rs b = ap rule.owners_of (counter_alike rs b)

pub counts_alike : (rs : List RefcRec) (b n : ℕ) → CountsAlike rs b n
counts_alike rs b n = record { reach = stretch_alike rs b n; count = owners_alike rs b }

-- ---- unfinished intents

sum_more : {A : Type 0} (f : A → ℕ) (x : A) (xs : List A) → sum_by f (x ∷ xs) ≡ f x + sum_by f xs
sum_more f x xs = sum_by-cons f x xs

either_some : (a b : ℕ) → (not (a == 0) || not (b == 0)) ≡ not (a + b == 0)
either_some a b = grind (arith, nat_tests)

any_both : {A : Type 0} (f : A → Bool) (xs ys : List A) → list_any f (xs ++ ys) ≡ (list_any f xs || list_any f ys)
any_both f [] ys = refl
any_both f (x ∷ xs) ys = by_test (f x) (any_both f xs ys)
  where
    by_test : (t : Bool) → list_any f (xs ++ ys) ≡ (list_any f xs || list_any f ys) → (t || list_any f (xs ++ ys)) ≡ ((t || list_any f xs) || list_any f ys)
    by_test true later = refl
    by_test false later = later

one_counted : (t : Bool) → t ≡ not ((if t then 1 else 0) == 0)
one_counted true = refl
one_counted false = refl

chain_owes : (g : ℕ) (is : List Intent) → list_any (λ (i : Intent). i.group == g) is ≡ not (owed_to g is == 0)
unfolding owed_to
chain_owes g [] = refl
chain_owes g (i ∷ is) =
    ap (λ (b : Bool). b || list_any (λ (j : Intent). j.group == g) is) (one_counted (i.group == g))
    ∙ ap (λ (b : Bool). not (counted_in g i == 0) || b) (chain_owes g is)
    ∙ either_some (counted_in g i) (sum_by (counted_in g) is)
    ∙ ap (λ (n : ℕ). not (n == 0)) (sym (sum_more (counted_in g) i is))

place_owes : (g : ℕ) (c : Option Chain) → list_any (λ (i : Intent). i.group == g) (owed_of c) ≡ not (owed_by g c == 0)
place_owes g None = refl
place_owes g (Some c) = chain_owes g (owed_of (Some c))

all_owe : (g : ℕ) (cs : List (Option Chain)) (k : ℕ) (chains : ℕ → List Intent) → ((n : ℕ) → n < length cs → chains (k + n) ≡ owed_of (chain_at cs n)) → list_any (λ (i : Intent). i.group == g) (flat_map chains (numbers k (length cs))) ≡ not (count_in g cs == 0)
unfolding count_in
all_owe g [] k chains same = refl
all_owe g (c ∷ cs) k chains same =
    let here : chains k ≡ owed_of c = (let e : k + 0 ≡ k = omega arith in subst (λ (n : ℕ). chains n ≡ owed_of c) e (same 0 (omega arith))) in
    let later = all_owe g cs (k + 1) chains (λ n lt. let e : k + suc n ≡ (k + 1) + n = omega arith in subst (λ (j : ℕ). chains j ≡ owed_of (chain_at cs n)) e (same (suc n) (omega (arith, lt)))) in
    any_both (λ (i : Intent). i.group == g) (chains k) (flat_map chains (numbers (k + 1) (length cs)))
    ∙ ap (λ (is : List Intent). list_any (λ (i : Intent). i.group == g) is || list_any (λ (i : Intent). i.group == g) (flat_map chains (numbers (k + 1) (length cs)))) here
    ∙ ap (λ (b : Bool). b || list_any (λ (i : Intent). i.group == g) (flat_map chains (numbers (k + 1) (length cs)))) (place_owes g c)
    ∙ ap (λ (b : Bool). not (owed_by g c == 0) || b) later
    ∙ either_some (owed_by g c) (sum_by (owed_by g) cs)
    ∙ ap (λ (n : ℕ). not (n == 0)) (sym (sum_more (owed_by g) c cs))

back_again : (b : Bool) → not (not b) ≡ b
back_again true = refl
back_again false = refl

pub quiet_alike : QuietAlike
unfolding is_quiet pending
quiet_alike a cs g are =
    ap (λ (n : ℕ). not (list_any (λ (i : Intent). i.group == g) (flat_map a.chains (numbers 0 n)))) (sym are.all)
    ∙ ap not (all_owe g cs 0 a.chains (λ n lt. let e : n ≡ 0 + n = omega arith in subst (λ (j : ℕ). a.chains j ≡ owed_of (chain_at cs n)) e (are.each n (let all = are.all in omega (arith, lt, all)))))
    ∙ back_again (count_in g cs == 0)
