-- In a quiet group settled owners are the owners, so mappings that hold what they should tell them.
use Rattle.std.proofs.Common.{◌≡◌, ℕ, ◌==◌, ◌&&◌, ◌||◌, Bool, true, false, not, List, [], ◌∷◌, ◌++◌, filter, flat_map, map, refl, sym, ap, ap₂, subst, ◌∙◌}
use Rattle.std.specs.Prelude.{if◌then◌else◌}
use Rattle.std.specs.List.{list_any}
use Rattle.std.proofs.lemmas.Bool.{false≢true, true≢false}
use Rattle.fs_change.proofs.Beside as beside
use Rattle.fs_change.proofs.Sets.{has_both, has_passing, has_set}
use Rattle.fs_change.specs.Chains.{Quiet, given_by, gives, is_quiet, most_chains, owed_gifts, owed_takings, pending, run_of, settled_by, settled_forks, settled_own, taken_by, takes, tuples_of, word_taken}
use Rattle.fs_change.specs.Step.{Step}
use Rattle.fs_state.specs.Claims.{Claimed, claims, fork_claims, metadata_claims}
use Rattle.fs_state.specs.Derive.{derive, mappings}
use Rattle.fs_state.specs.Lists.{numbers}
use Rattle.fs_state.specs.Own.{own, rmap_of, tuple_of}
use Rattle.fs_model.specs.declared.entry.Entry.TheVariants as entries
use Rattle.fs_model.specs.declared.unit.Unit.{Unit as ScrubUnit}
use Rattle.fs_model.specs.declared.unit.Unit.TheVariants as units
use Rattle.fs_state.specs.State.{State, recs_of}
use Rattle.fs_state.specs.declared.intent.Intent.{Intent}
use Rattle.law_accounts.proofs.Owner.Members.{runs_by}
use Rattle.law_repairs.proofs.Repair.Made.{inodes_keep_mappings, unit_is_made}
use Rattle.law_repairs.proofs.Repair.Owners.{space_keeps_mappings}
use Rattle.law_repairs.specs.Repair.Letters.{Holds}
use Rattle.law_repairs.proofs.Reserve.Owning.{runs_now}
use Rattle.rmap_recs.specs.Runs.{AreRuns, has, is_same}
use Rattle.rmap_recs.specs.declared.tuples.Tuple.{Tuple}
use Rattle.sblock.specs.declared.kind.Kind.{Kind}
use Rattle.law_cuts.specs.Rebuild.Switched.{InodesSwitchedTold, MadeTold, QuietTold, SpaceSwitchedTold}

-- ---- nothing is owed to a quiet group

not_true : (k : Bool) → not k ≡ true → k ≡ false
not_true true h = absurd (false≢true h)
not_true false h = refl

none_if : (k : Bool) → ◌≡◌ {A = List Tuple} (if k then [] else []) []
none_if true = refl
none_if false = refl

gives_none : (g : ℕ) (i : Intent) → (i.group == g) ≡ false → given_by g i ≡ []
gives_none g i e = ap (λ (k : Bool). if gives i.kind then (if k then tuples_of (run_of i i.word) else []) else []) e ∙ none_if (gives i.kind)

takes_none : (g : ℕ) (i : Intent) → (i.group == g) ≡ false → taken_by g i ≡ []
takes_none g i e = ap (λ (k : Bool). if takes i.kind then (if k then tuples_of (run_of i (word_taken i)) else []) else []) e ∙ none_if (takes i.kind)

module _ (g : ℕ) (f : Intent → List Tuple) (none : (i : Intent) → (i.group == g) ≡ false → f i ≡ []) where
  nothing_from : (is : List Intent) → list_any (λ i. i.group == g) is ≡ false → flat_map f is ≡ []
  nothing_from [] h = refl
  nothing_from (i ∷ is) h = by (i.group == g) refl h (nothing_from is)
    where
      by : (k : Bool) → (i.group == g) ≡ k → (k || list_any (λ j. j.group == g) is) ≡ false → (list_any (λ j. j.group == g) is ≡ false → flat_map f is ≡ []) → flat_map f (i ∷ is) ≡ []
      by true e h rest = absurd (true≢false h)
      by false e h rest = ap₂ (λ (xs ys : List Tuple). xs ++ ys) (none i e) (rest h)

no_gifts : (a : State) (g : ℕ) → Quiet a g → owed_gifts a g ≡ []
unfolding is_quiet
no_gifts a g quiet = nothing_from g (given_by g) (gives_none g) (pending a) (not_true (list_any (λ i. i.group == g) (pending a)) quiet)

no_takings : (a : State) (g : ℕ) → Quiet a g → owed_takings a g ≡ []
unfolding is_quiet
no_takings a g quiet = nothing_from g (taken_by g) (takes_none g) (pending a) (not_true (list_any (λ i. i.group == g) (pending a)) quiet)

-- ---- so settled owners are the owners

and_true : (k : Bool) → (k && true) ≡ k
and_true true = refl
and_true false = refl

or_none : (k : Bool) → (k || false) ≡ k
or_none true = refl
or_none false = refl

forks_settled : (a : State) (g : ℕ) → Quiet a g → (t : Tuple) → has (settled_forks a g) t ≡ has (map tuple_of (fork_claims a g)) t
unfolding settled_forks
forks_settled a g quiet t =
    ap₂ (λ (xs ys : List Tuple). has (settled_by xs ys (map tuple_of (fork_claims a g))) t) (no_gifts a g quiet) (no_takings a g quiet)
    ∙ has_set (filter (λ u. not (has [] u)) (map tuple_of (fork_claims a g)) ++ []) t
    ∙ has_both (filter (λ u. not (has [] u)) (map tuple_of (fork_claims a g))) [] t
    ∙ or_none (has (filter (λ u. not (has [] u)) (map tuple_of (fork_claims a g))) t)
    ∙ has_passing (λ u. not (has [] u)) (map tuple_of (fork_claims a g)) t
    ∙ and_true (has (map tuple_of (fork_claims a g)) t)

split : (cs ds : List Claimed) (t : Tuple) → has (map tuple_of (cs ++ ds)) t ≡ (has (map tuple_of cs) t || has (map tuple_of ds) t)
split [] ds t = refl
split (c ∷ cs) ds t = ap (λ (k : Bool). is_same t (tuple_of c) || k) (split cs ds t) ∙ sym (joined (is_same t (tuple_of c)) (has (map tuple_of cs) t) (has (map tuple_of ds) t))
  where
    joined : (x y z : Bool) → ((x || y) || z) ≡ (x || (y || z))
    joined true y z = refl
    joined false y z = refl

own_settled : (a : State) (g : ℕ) → Quiet a g → (t : Tuple) → has (settled_own a g) t ≡ has (own a g) t
unfolding own settled_own claims
own_settled a g quiet t =
    has_set (map tuple_of (metadata_claims a g) ++ settled_forks a g) t ∙ has_both (map tuple_of (metadata_claims a g)) (settled_forks a g) t
    ∙ ap (λ (k : Bool). has (map tuple_of (metadata_claims a g)) t || k) (forks_settled a g quiet t)
    ∙ sym (has_set (map tuple_of (claims a g)) t ∙ split (metadata_claims a g) (fork_claims a g) t)

held_maps : (b : State) (g : ℕ) → Holds b g units.Rmap → mappings b g ≡ rmap_of b g
unfolding derive
held_maps b g h = ap recs_of h.0.0.0.1

pub quiet_told : QuietTold
quiet_told b g quiet holds order =
    subst (AreRuns (settled_own b g)) (sym (held_maps b g holds)) (runs_by (own b g) (settled_own b g) (own_settled b g quiet) (rmap_of b g) (runs_now b g order.0 order.1))

-- ---- a switch leaves the group quiet

chains_quiet : (a b : State) (g : ℕ) → b.chains ≡ a.chains → Quiet a g → Quiet b g
unfolding is_quiet pending
chains_quiet a b g same quiet = ap (λ (cs : ℕ → List Intent). not (list_any (λ i. i.group == g) (flat_map cs (numbers 0 most_chains)))) same ∙ quiet

stays_quiet : (a b : State) (left : List Kind) (g : ℕ) (unit : ScrubUnit) (root second : ℕ) → Step a left (entries.Switched g unit root second) b → Quiet b g
stays_quiet a b left g unit root second s =
    chains_quiet a b g (s.loosely.chains ∙ (λ i c. (beside.decided a s.decided left (entries.Switched g unit root second) s.row).chains c tt i)) s.row.1.quiet

pub made_told : MadeTold
made_told a b left g root second splits s can order = quiet_told b g (stays_quiet a b left g units.Rmap root second s) (unit_is_made a b left g units.Rmap root second splits s can) order

pub space_switched_told : SpaceSwitchedTold
space_switched_told a b left g unit root second which splits s owners stands trusted order =
    quiet_told b g (stays_quiet a b left g unit root second s) (space_keeps_mappings a b left g unit root second which splits s owners stands trusted) order

pub inodes_switched_told : InodesSwitchedTold
inodes_switched_told a b left g root second splits s readable stands trusted order =
    quiet_told b g (stays_quiet a b left g units.Inode root second s) (inodes_keep_mappings a b left g root second splits s readable stands trusted) order
