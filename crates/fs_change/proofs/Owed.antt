-- What all chains owe, where one of them owes more.
use Rattle.std.proofs.Common.{◌≡◌, ℕ, ◌<◌, ◌≤◌, ◌+◌, ◌==◌, ◌&&◌, ◌||◌, zero, suc, Bool, true, false, not, cond, List, [], ◌∷◌, ◌++◌, flat_map, filter, refl, sym, ap, subst, ◌∙◌, arith, eqb-true, eq-eqb}
use Rattle.std.proofs.lemmas.Bool.{false≢true, true≢false}
use Rattle.std.proofs.lemmas.Bool.Decides.{nat_tests}
use Rattle.std.specs.List.{list_any}
use Rattle.rmap_recs.specs.Runs.{has}
use Rattle.rmap_recs.specs.declared.tuples.Tuple.{Tuple}
use Rattle.fs_state.specs.State.{State}
use Rattle.fs_state.specs.declared.intent.Intent.{Intent}
use Rattle.fs_state.specs.Lists.{numbers}
use Rattle.fs_change.proofs.Beside.{elsewhere}
use Rattle.fs_change.proofs.Sets.{one_set, has_set, has_both, has_passing}
use Rattle.fs_change.proofs.Settled.{change_pending, in_settled}
use Rattle.fs_change.specs.Chains.{most_chains, pending, owed_gifts, owed_takings, given_by, taken_by, settled_forks}
use Rattle.fs_change.specs.Laws.{FirstEventKeeps, StepMoves, fork_owners, all_given, all_taken}
use Rattle.fs_change.specs.Parts.{at_only}

-- ---- by chains

or_again : (a b c : Bool) → ((a || b) || c) ≡ (a || (b || c))
or_again true b c = refl
or_again false b c = refl

spread : (F : Intent → List Tuple) (is js : List Intent) (t : Tuple) → has (flat_map F (is ++ js)) t ≡ (has (flat_map F is) t || has (flat_map F js) t)
spread F [] js t = refl
spread F (i ∷ is) js t =
    has_both (F i) (flat_map F (is ++ js)) t
    ∙ ap (λ b. has (F i) t || b) (spread F is js t)
    ∙ sym (or_again (has (F i) t) (has (flat_map F is) t) (has (flat_map F js) t))
    ∙ ap (λ b. b || has (flat_map F js) t) (sym (has_both (F i) (flat_map F is) t))

-- a chain owes it
abbrev owes : (Intent → List Tuple) → (ℕ → List Intent) → Tuple → ℕ → Bool
owes F f t n = has (flat_map F (f n)) t

by_chain : (F : Intent → List Tuple) (f : ℕ → List Intent) (t : Tuple) (ns : List ℕ) → has (flat_map F (flat_map f ns)) t ≡ list_any (owes F f t) ns
by_chain F f t [] = refl
by_chain F f t (n ∷ ns) = spread F (f n) (flat_map f ns) t ∙ ap (λ b. owes F f t n || b) (by_chain F f t ns)

in_numbers : (a n c : ℕ) → a ≤ c → c < a + n → list_any (λ m. m == c) (numbers a n) ≡ true
in_numbers a zero c h i = absurd (omega arith)
in_numbers a (suc n) c h i = (elim (a == c) as (λ b. (a == c) ≡ b → (b || list_any (λ m. m == c) (numbers (a + 1) n)) ≡ true) [
  | true ↦ λ e. refl
  | false ↦ λ e. in_numbers (a + 1) n c (grind (arith, nat_tests)) (omega arith)
]) refl

fold_in : (d r e n : Bool) → ((n || d) || (r || (e && n))) ≡ ((d || r) || n)
fold_in true r e true = refl
fold_in true r e false = refl
fold_in false true e true = refl
fold_in false true e false = refl
fold_in false false e true = refl
fold_in false false true false = refl
fold_in false false false false = refl

-- one of them is true more often at one place
more_owed : (D E : ℕ → Bool) (c : ℕ) (new : Bool) → ((n : ℕ) → (n == c) ≡ false → D n ≡ E n) → D c ≡ (new || E c) → (ns : List ℕ) → list_any D ns ≡ (list_any E ns || (list_any (λ n. n == c) ns && new))
more_owed D E c new other at [] = refl
more_owed D E c new other at (n ∷ ns) = (elim (n == c) as (λ b. (n == c) ≡ b → (D n || list_any D ns) ≡ ((E n || list_any E ns) || ((b || list_any (λ m. m == c) ns) && new))) [
  | true ↦ λ e.
      ap (λ b. b || list_any D ns) (subst (λ (m : ℕ). D m ≡ (new || E m)) (sym (eqb-true n c e)) at)
      ∙ ap (λ b. (new || E n) || b) (more_owed D E c new other at ns)
      ∙ fold_in (E n) (list_any E ns) (list_any (λ m. m == c) ns) new
  | false ↦ λ e.
      ap (λ b. b || list_any D ns) (other n e)
      ∙ ap (λ b. E n || b) (more_owed D E c new other at ns)
      ∙ sym (or_again (E n) (list_any E ns) (list_any (λ m. m == c) ns && new))
]) refl

pub same_at : {X : Type 0} (k : ℕ) (x : X) (f : ℕ → X) → at_only k x f k ≡ x
same_at k x f = ap (λ b. cond b x (f k)) (eq-eqb k k refl)

-- the chain's new intents are owed besides
pub owed_more : (F : Intent → List Tuple) (f h : ℕ → List Intent) (c : ℕ) (t : Tuple) (new : Bool) → c < most_chains → ((n : ℕ) → (n == c) ≡ false → f n ≡ h n) → owes F f t c ≡ (new || owes F h t c)
    → has (flat_map F (flat_map f (numbers 0 most_chains))) t ≡ (has (flat_map F (flat_map h (numbers 0 most_chains))) t || new)
owed_more F f h c t new below other at =
    by_chain F f t (numbers 0 most_chains)
    ∙ more_owed (owes F f t) (owes F h t) c new (λ n e. ap (λ is. has (flat_map F is) t) (other n e)) at (numbers 0 most_chains)
    ∙ ap (λ b. list_any (owes F h t) (numbers 0 most_chains) || (b && new)) (in_numbers 0 16 c (omega arith) below)
    ∙ ap (λ b. b || new) (sym (by_chain F h t (numbers 0 most_chains)))

pub or_none : (b : Bool) → b ≡ (b || false)
or_none true = refl
or_none false = refl

-- ---- a first event

begun : (F : Intent → List Tuple) (a b : State) (c : ℕ) (intents : List Intent) (t : Tuple) → c < most_chains → a.chains c ≡ [] → b.chains ≡ at_only c intents a.chains
    → has (flat_map F (flat_map b.chains (numbers 0 most_chains))) t ≡ (has (flat_map F (flat_map a.chains (numbers 0 most_chains))) t || has (flat_map F intents) t)
begun F a b c intents t below nothing chain =
    owed_more F b.chains a.chains c t (has (flat_map F intents) t) below
    (λ n e. ap (λ (f : ℕ → List Intent). f n) chain ∙ elsewhere c intents a.chains n e)
    (ap (λ is. has (flat_map F is) t) (ap (λ (f : ℕ → List Intent). f c) chain ∙ same_at c intents a.chains)
    ∙ or_none (has (flat_map F intents) t)
    ∙ ap (λ is. has (flat_map F intents) t || has (flat_map F is) t) (sym nothing))

pub first_event_keeps : FirstEventKeeps
unfolding settled_forks pending
first_event_keeps a b g c intents s =
    change_pending (owed_gifts a g) (owed_gifts b g) (owed_takings a g) (owed_takings b g) (fork_owners a g) (fork_owners b g) (all_given g intents) (all_taken g intents)
    s.forks
    (λ t. begun (given_by g) a b c intents t s.below s.nothing s.chain)
    (λ t. begun (taken_by g) a b c intents t s.below s.nothing s.chain)
    s.fresh s.there s.apart

-- ---- a finished step

ended : (F : Intent → List Tuple) (a b : State) (c : ℕ) (i : Intent) (rest : List Intent) (t : Tuple) → c < most_chains → a.chains c ≡ i ∷ rest → b.chains ≡ at_only c rest a.chains
    → has (flat_map F (flat_map a.chains (numbers 0 most_chains))) t ≡ (has (flat_map F (flat_map b.chains (numbers 0 most_chains))) t || has (F i) t)
ended F a b c i rest t below next chain =
    owed_more F a.chains b.chains c t (has (F i) t) below
    (λ n e. sym (ap (λ (f : ℕ → List Intent). f n) chain ∙ elsewhere c rest a.chains n e))
    (ap (λ is. has (flat_map F is) t) next
    ∙ has_both (F i) (flat_map F rest) t
    ∙ ap (λ is. has (F i) t || has (flat_map F is) t) (sym (ap (λ (f : ℕ → List Intent). f c) chain ∙ same_at c rest a.chains)))

-- with these owners owed less, less is left out and more is put back
moves : (ts us gifts more takings plus new old : Bool) → us ≡ ts → more ≡ (gifts || new) → plus ≡ (takings || old) → (new ≡ true → ts ≡ true) → (new ≡ true → gifts ≡ false) → (old ≡ true → ts ≡ false) → (old ≡ true → takings ≡ false)
    → ((us && not gifts) || takings) ≡ (((((ts && not more) || plus) && not old)) || new)
moves ts us gifts more takings plus new old u m p there once gone twice =
    ap (λ x. (x && not gifts) || takings) u
    ∙ by_cases ts gifts takings new old there once gone twice
    ∙ sym (ap (λ x. ((((ts && not x) || plus) && not old)) || new) m ∙ ap (λ x. ((((ts && not (gifts || new)) || x) && not old)) || new) p)
  where
    by_cases : (ts gifts takings new old : Bool) → (new ≡ true → ts ≡ true) → (new ≡ true → gifts ≡ false) → (old ≡ true → ts ≡ false) → (old ≡ true → takings ≡ false) → ((ts && not gifts) || takings) ≡ (((((ts && not (gifts || new)) || (takings || old)) && not old)) || new)
    by_cases false gifts takings true old f g h k = absurd (false≢true (f refl))
    by_cases true true takings true old f g h k = absurd (true≢false (g refl))
    by_cases true gifts takings new true f g h k = absurd (true≢false (h refl))
    by_cases ts gifts true new true f g h k = absurd (true≢false (k refl))
    by_cases true false true true false f g h k = refl
    by_cases true false false true false f g h k = refl
    by_cases true true true false false f g h k = refl
    by_cases true true false false false f g h k = refl
    by_cases true false true false false f g h k = refl
    by_cases true false false false false f g h k = refl
    by_cases false true true false false f g h k = refl
    by_cases false true false false false f g h k = refl
    by_cases false false true false false f g h k = refl
    by_cases false false false false false f g h k = refl
    by_cases false true false false true f g h k = refl
    by_cases false false false false true f g h k = refl

pub step_moves : StepMoves
unfolding settled_forks pending
step_moves a b g c i rest s =
    one_set (filter (λ t. not (has (owed_gifts b g) t)) (fork_owners b g) ++ owed_takings b g) (filter (λ t. not (has (taken_by g i) t)) (settled_forks a g) ++ given_by g i) (λ t.
    in_settled (owed_gifts b g) (owed_takings b g) (fork_owners b g) t
    ∙ moves (has (fork_owners a g) t) (has (fork_owners b g) t) (has (owed_gifts b g) t) (has (owed_gifts a g) t) (has (owed_takings b g) t) (has (owed_takings a g) t) (has (given_by g i) t) (has (taken_by g i) t)
    (s.forks t) (ended (given_by g) a b c i rest t s.below s.next s.chain) (ended (taken_by g) a b c i rest t s.below s.next s.chain) (s.there t) (s.given_once t) (s.gone t) (s.taken_once t)
    ∙ ap (λ x. (x && not (has (taken_by g i) t)) || has (given_by g i) t) (sym (has_set (filter (λ u. not (has (owed_gifts a g) u)) (fork_owners a g) ++ owed_takings a g) t ∙ in_settled (owed_gifts a g) (owed_takings a g) (fork_owners a g) t))
    ∙ ap (λ x. x || has (given_by g i) t) (sym (has_passing (λ u. not (has (taken_by g i) u)) (settled_forks a g) t))
    ∙ sym (has_both (filter (λ u. not (has (taken_by g i) u)) (settled_forks a g)) (given_by g i) t))
