-- Mappings that tell settled owners follow blocks that move from one owner to another.
use Rattle.std.proofs.Common.{◌≡◌, ℕ, zero, suc, ◌+◌, ◌^◌, ◌<◌, ◌≤◌, ◌==◌, ◌&&◌, ◌||◌, Bool, true, false, not, cond, nat_le, nat_lt, List, [], ◌∷◌, ◌++◌, filter, flat_map, map, refl, sym, ap, ap₂, subst, ◌∙◌, arith, eqb-true, eq-eqb}
use Rattle.std.specs.Prelude.{if◌then◌else◌}
use Rattle.std.proofs.lemmas.Bool.{false≢true, lt-ltb, true≢false}
use Rattle.std.proofs.lemmas.Bool.Decides.{nat_tests}
use Rattle.law_accounts.proofs.Account.Framed.{SameParts, same_parts}
use Rattle.law_accounts.specs.Account.Ledger.{Sound}
use Rattle.law_accounts.specs.Account.Stated.{ledger_at}
use Rattle.law_accounts.proofs.Edit.Mappings.{mapping_given, mapping_taken}
use Rattle.fs_change.proofs.Sets.{has_both, has_of, has_passing, of_has, same_is, same_self}
use Rattle.fs_change.specs.Chains.{given_by, most_chains, pending, settled_by, settled_forks, settled_own, taken_by, tuples_of}
use Rattle.fs_change.specs.Edited.{edited_in, group_of_entry}
use Rattle.fs_change.specs.Loose.{Inside, Loosely, MovesBlocks, lost_to, owners_in, pool_of}
use Rattle.fs_change.specs.Met.{give_each, one_block, take_each}
use Rattle.fs_change.specs.Parts.{records_in}
use Rattle.fs_change.specs.Switch.{has_owned, is_same_owned}
use Rattle.fs_state.specs.Chunks.{chunks}
use Rattle.fs_state.specs.Claims.{Claimed, claimed_by, claims, fork_claims, metadata_claims}
use Rattle.fs_state.specs.Derive.{mappings}
use Rattle.fs_state.specs.Lists.{numbers}
use Rattle.fs_state.specs.Own.{set_of, tuple_of}
use Rattle.fs_model.specs.declared.claim.Claim.TheVariants.{Limbo}
use Rattle.fs_state.specs.State.{Group, Owned, State, blocks_in, pairs_of}
use Rattle.geom.specs.Apart.{Splits}
use Rattle.law_repairs.proofs.Move.Claiming.{metadata_is, owned_plain, owned_times, owner_plain, total_is}
use Rattle.law_repairs.proofs.Move.Kept.{loose_alike}
use Rattle.law_repairs.proofs.Move.Pairs.{blocks_are}
use Rattle.law_repairs.proofs.Order.Tidy.{pairs_less}
use Rattle.law_accounts.proofs.Owner.Finished.{run_given, run_taken}
use Rattle.law_accounts.proofs.Owner.Members.{metadata_same, runs_by, settled_is}
use Rattle.law_accounts.specs.Owner.Told.{AreTold}
use Rattle.law_repairs.proofs.Repair.Same.{chunks_same, forks_same}
use Rattle.law_repairs.proofs.Repair.Totals.{chunk_part, front_part, has_weight, is_owner, limbo_weight, owned_by, pairs_weight, weigh}
use Rattle.law_repairs.specs.Repair.Alike.{AlikeInodes}
use Rattle.rmap_recs.specs.Rmap.{has_end}
use Rattle.rmap_recs.specs.Runs.{AreRuns, has, is_same, tuple_at}
use Rattle.rmap_recs.specs.Words.{is_fork_data, offset_of}
use Rattle.rmap_recs.specs.declared.records.RmapRec.{RmapRec}
use Rattle.rmap_recs.specs.declared.tuples.Tuple.{Tuple}
use Rattle.run_edits.specs.EditLaws.{AreUntied}
use Rattle.sblock.specs.declared.kind.Kind.{Kind}
use Rattle.sblock.specs.declared.kind.Kind.TheVariants.{Rmap}
use Rattle.tree_defs.specs.Lists.{times}
use Rattle.law_cuts.specs.Cut.Told.{MayMove, ToldBehind}
use Rattle.law_cuts.proofs.Cut.Cut.{decided_splits, owned_sum, stands_alone, stands_once}
use Rattle.law_cuts.proofs.Cut.Moved.{came, fewer, gone, maps_written, reserve_now, times_now}

-- ---- the tuple of a pair

abbrev pub tuple_for : Owned → Tuple
tuple_for o = record { block = o.block; owner = o.owner; word = 0 }

or_none : (z : Bool) → (z || false) ≡ z
or_none true = refl
or_none false = refl

and_all : (z : Bool) → (z && true) ≡ z
and_all true = refl
and_all false = refl

not_true : (z : Bool) → (z ≡ true → ⊥) → z ≡ false
not_true true f = absurd (f refl)
not_true false f = refl

one_tuple : (o : Owned) (t : Tuple) → has (tuples_of (one_block o)) t ≡ is_same t (tuple_for o)
one_tuple o t = ap (λ (u : Tuple). is_same t u || false) same ∙ or_none (is_same t (tuple_for o))
  where
    no_word : (f : Bool) → ◌≡◌ {A = ℕ} (if f then 0 + 0 else 0) 0
    no_word true = refl
    no_word false = refl

    none_more : (n : ℕ) → n + 0 ≡ n
    none_more n = omega arith

    same : tuple_at (one_block o) 0 ≡ tuple_for o
    same = λ i. record { block = none_more o.block i; owner = o.owner; word = no_word (is_fork_data o.owner 0) i }

ends : (o : Owned) → o.block < 2 ^ 32 → has_end (one_block o) ≡ true
unfolding has_end
ends o small = ap (λ x. nat_le 1 1 && x && (not (is_fork_data o.owner 0) || nat_le (offset_of 0 + 1) (2 ^ 54))) (reaches o.block (2 ^ 32) small) ∙ last (is_fork_data o.owner 0)
  where
    reaches : (x y : ℕ) → x < y → nat_le (x + 1) y ≡ true
    reaches x y l = grind (arith, nat_tests)

    last : (f : Bool) → (nat_le 1 1 && true && (not f || nat_le (offset_of 0 + 1) (2 ^ 54))) ≡ true
    last true = refl
    last false = refl

-- ---- those of a list

pub weigh_less : {X : Type 0} (f h : X → ℕ) (xs : List X) → ((x : X) → f x ≤ h x) → weigh f xs ≤ weigh h xs
weigh_less f h [] l = omega arith
weigh_less f h (x ∷ xs) l = let one = l x in let rest = weigh_less f h xs l in omega (arith, one, rest)

pub owner_less : (t : Tuple) (c : Claimed) → is_owner t c ≤ owned_by t.block c
owner_less t c = by (is_same t (tuple_of c)) refl
  where
    by : (s : Bool) → is_same t (tuple_of c) ≡ s → (if s then 1 else 0) ≤ owned_by t.block c
    by true e =
        let here : ◌≡◌ {A = ℕ} (if c.block == t.block then 1 else 0) 1 = ap (λ (k : Bool). if k then 1 else 0) (eq-eqb c.block t.block (sym (ap (λ (u : Tuple). u.block) (same_is t (tuple_of c) e)))) in
        omega (arith, here)
    by false e = omega arith

pub has_pairs : (os : List Owned) (t : Tuple) → has (map tuple_for os) t ≡ nat_lt 0 (weigh (limbo_weight (is_owner t)) os)
has_pairs [] t = refl
has_pairs (o ∷ os) t = by (is_same t (tuple_for o)) (has_pairs os t)
  where
    zero_more : (n : ℕ) → n ≡ 0 + n
    zero_more n = omega arith

    by : (k : Bool) → has (map tuple_for os) t ≡ nat_lt 0 (weigh (limbo_weight (is_owner t)) os) → (k || has (map tuple_for os) t) ≡ nat_lt 0 ((if k then 1 else 0) + weigh (limbo_weight (is_owner t)) os)
    by true h = sym (lt-ltb 0 (1 + weigh (limbo_weight (is_owner t)) os) (omega arith))
    by false h = h ∙ ap (nat_lt 0) (zero_more (weigh (limbo_weight (is_owner t)) os))

-- its block stands there
stands : (os : List Owned) (t : Tuple) → has (map tuple_for os) t ≡ true → 1 ≤ times t.block (blocks_in os)
stands os t h =
    let some : 1 ≤ weigh (limbo_weight (is_owner t)) os = positive (weigh (limbo_weight (is_owner t)) os) (sym (has_pairs os t) ∙ h) in
    let less = weigh_less (limbo_weight (is_owner t)) (limbo_weight (owned_by t.block)) os (λ o. owner_less t (claimed_by Limbo o.owner o.block)) in
    let all = owned_times t.block os in
    omega (arith, some, less, all)
  where
    positive : (n : ℕ) → nat_lt 0 n ≡ true → 1 ≤ n
    positive n h = grind (arith, nat_tests)

-- a pair isn't among others where its block stands once
alone_in : (o : Owned) (os : List Owned) → times o.block (blocks_in (o ∷ os)) ≤ 1 → has (map tuple_for os) (tuple_for o) ≡ false
alone_in o os most = not_true (has (map tuple_for os) (tuple_for o)) (λ h.
    let some = stands os (tuple_for o) h in
    let here : ◌≡◌ {A = ℕ} (if o.block == o.block then 1 else 0) 1 = ap (λ (k : Bool). if k then 1 else 0) (eq-eqb o.block o.block refl) in
    absurd (omega (arith, some, here, most)))

rest_once : (o : Owned) (os : List Owned) → ((k : ℕ) → times k (blocks_in (o ∷ os)) ≤ 1) → (k : ℕ) → times k (blocks_in os) ≤ 1
rest_once o os once k = let h = once k in omega (arith, h)

pair_same : (o p : Owned) → is_same (tuple_for o) (tuple_for p) ≡ is_same_owned o p
pair_same o p = and_all (is_same_owned o p)

pub owned_has : (ps : List Owned) (o : Owned) → has (map tuple_for ps) (tuple_for o) ≡ has_owned ps o
owned_has [] o = refl
owned_has (p ∷ ps) o = ap₂ (λ (y z : Bool). y || z) (pair_same o p) (owned_has ps o)

-- a set has what its list has
in_set : (os : List Owned) (t : Tuple) → has (map tuple_for (pairs_of os)) t ≡ has (map tuple_for os) t
in_set os t =
    let weight : Owned → ℕ = limbo_weight (is_owner t) in
    has_pairs (pairs_of os) t ∙ any_left (weigh weight (pairs_of os)) (weigh weight os) (pairs_weight weight os) ∙ sym (has_pairs os t)
  where
    any_left : (m n : ℕ) → (m ≤ n) × (1 ≤ n → 1 ≤ m) → nat_lt 0 m ≡ nat_lt 0 n
    any_left m zero h = let less = h.0 in let none : m ≡ 0 = omega (arith, less) in ap (nat_lt 0) none
    any_left m (suc n) h = let some = h.1 (omega arith) in lt-ltb 0 m (omega (arith, some)) ∙ sym (lt-ltb 0 (suc n) (omega arith))

listed_has : (ps qs : List Owned) (t : Tuple) → has (map tuple_for (lost_to ps qs)) t ≡ (has (map tuple_for ps) t && not (has (map tuple_for qs) t))
listed_has [] qs t = refl
listed_has (o ∷ ps) qs t = by (is_same t (tuple_for o)) refl (not (has_owned qs o)) refl (listed_has ps qs t)
  where
    now : is_same t (tuple_for o) ≡ true → has (map tuple_for qs) t ≡ has_owned qs o
    now e = ap (has (map tuple_for qs)) (same_is t (tuple_for o) e) ∙ owned_has qs o

    out : (x y : Bool) → y ≡ false → (x && y) ≡ y
    out true y e = refl
    out false y e = sym e

    by : (s : Bool) → is_same t (tuple_for o) ≡ s → (k : Bool) → not (has_owned qs o) ≡ k → has (map tuple_for (lost_to ps qs)) t ≡ (has (map tuple_for ps) t && not (has (map tuple_for qs) t))
        → has (map tuple_for (cond k (o ∷ lost_to ps qs) (lost_to ps qs))) t ≡ ((s || has (map tuple_for ps) t) && not (has (map tuple_for qs) t))
    by true e true f rest = ap (λ (z : Bool). z || has (map tuple_for (lost_to ps qs)) t) e ∙ sym (ap not (now e) ∙ f)
    by true e false f rest = rest ∙ out (has (map tuple_for ps) t) (not (has (map tuple_for qs) t)) (ap not (now e) ∙ f)
    by false e true f rest = ap (λ (z : Bool). z || has (map tuple_for (lost_to ps qs)) t) e ∙ rest
    by false e false f rest = rest

lost_has : (ps qs : List Owned) (t : Tuple) → has (map tuple_for (pairs_of (lost_to ps qs))) t ≡ (has (map tuple_for ps) t && not (has (map tuple_for qs) t))
lost_has ps qs t = in_set (lost_to ps qs) t ∙ listed_has ps qs t

-- ---- one pair after the other

untied_in : (ts us : List Tuple) → ((t : Tuple) → has us t ≡ true → has ts t ≡ true) → AreUntied ts → AreUntied us
untied_in ts us in_it untied t u c d = untied t u (of_has ts t (in_it t (has_of us t c))) (of_has ts u (in_it u (has_of us u d)))

abbrev pub without : List Owned → List Tuple → List Tuple
without os ts = filter (λ t. not (has (map tuple_for os) t)) ts

and_left : (x y : Bool) → (x && y) ≡ true → x ≡ true
and_left true y h = refl
and_left false y h = h

pub taken_runs : (ts : List Tuple) (recs : List RmapRec) (os : List Owned) → ((k : ℕ) → times k (blocks_in os) ≤ 1) → ((t : Tuple) → has (map tuple_for os) t ≡ true → (t.block < 2 ^ 32) × (has ts t ≡ true))
    → AreUntied ts → AreRuns ts recs → AreRuns (without os ts) (take_each os recs)
taken_runs ts recs [] once there untied runs = runs_by ts (without [] ts) (λ t. has_passing (λ u. true) ts t ∙ and_all (has ts t)) recs runs
taken_runs ts recs (o ∷ os) once there untied runs =
    let mine = there (tuple_for o) (ap (λ (z : Bool). z || has (map tuple_for os) (tuple_for o)) (same_self (tuple_for o))) in
    mapping_taken (without os ts) (without (o ∷ os) ts) (take_each os recs) (one_block o) (ends o mine.0)
    (untied_in ts (without (o ∷ os) ts) (λ t h. and_left (has ts t) (not (has (map tuple_for (o ∷ os)) t)) (sym (has_passing (λ u. not (has (map tuple_for (o ∷ os)) u)) ts t) ∙ h)) untied)
    (run_taken (without os ts) (without (o ∷ os) ts) (one_block o)
    (λ t h.
    subst (λ u. has (without os ts) u ≡ true) (sym (same_is t (tuple_for o) (sym (one_tuple o t) ∙ h)))
    (has_passing (λ u. not (has (map tuple_for os) u)) ts (tuple_for o) ∙ ap₂ (λ (y z : Bool). y && not z) mine.1 (alone_in o os (once o.block))))
    (λ t.
    has_passing (λ u. not (has (map tuple_for (o ∷ os)) u)) ts t
    ∙ split (has ts t) (is_same t (tuple_for o)) (has (map tuple_for os) t)
    ∙ sym (ap₂ (λ (y z : Bool). y && not z) (has_passing (λ u. not (has (map tuple_for os) u)) ts t) (one_tuple o t))))
    (taken_runs ts recs os (rest_once o os once) (λ t h. there t (or_right (is_same t (tuple_for o)) (has (map tuple_for os) t) h)) untied runs)
  where
    or_right : (p q : Bool) → q ≡ true → (p || q) ≡ true
    or_right true q e = refl
    or_right false q e = e

    split : (x y z : Bool) → (x && not (y || z)) ≡ ((x && not z) && not y)
    split true true true = refl
    split true true false = refl
    split true false true = refl
    split true false false = refl
    split false y z = refl

pub given_runs : (base big : List Tuple) (recs : List RmapRec) (os : List Owned) → ((k : ℕ) → times k (blocks_in os) ≤ 1) → ((t : Tuple) → has (map tuple_for os) t ≡ true → (t.block < 2 ^ 32) × (has base t ≡ false))
    → AreUntied big → ((t : Tuple) → has (map tuple_for os ++ base) t ≡ true → has big t ≡ true) → AreRuns base recs → AreRuns (map tuple_for os ++ base) (give_each os recs)
given_runs base big recs [] once there untied in_it runs = runs
given_runs base big recs (o ∷ os) once there untied in_it runs =
    let mine = there (tuple_for o) (ap (λ (z : Bool). z || has (map tuple_for os) (tuple_for o)) (same_self (tuple_for o))) in
    mapping_given (map tuple_for os ++ base) (map tuple_for (o ∷ os) ++ base) (give_each os recs) (one_block o) (ends o mine.0)
    (untied_in big (map tuple_for (o ∷ os) ++ base) in_it untied)
    (run_given (map tuple_for os ++ base) (map tuple_for (o ∷ os) ++ base) (one_block o)
    (λ t h.
    subst (λ u. has (map tuple_for os ++ base) u ≡ false) (sym (same_is t (tuple_for o) (sym (one_tuple o t) ∙ h)))
    (has_both (map tuple_for os) base (tuple_for o) ∙ ap₂ (λ (y z : Bool). y || z) (alone_in o os (once o.block)) mine.1))
    (λ t. turn (is_same t (tuple_for o)) (has (map tuple_for os ++ base) t) ∙ ap (λ (z : Bool). has (map tuple_for os ++ base) t || z) (sym (one_tuple o t))))
    (given_runs base big recs os (rest_once o os once) (λ t h. there t (or_right (is_same t (tuple_for o)) (has (map tuple_for os) t) h)) untied (λ t h. in_it t (or_right (is_same t (tuple_for o)) (has (map tuple_for os ++ base) t) h)) runs)
  where
    or_right : (p q : Bool) → q ≡ true → (p || q) ≡ true
    or_right true q e = refl
    or_right false q e = e

    turn : (y z : Bool) → (y || z) ≡ (z || y)
    turn true true = refl
    turn true false = refl
    turn false true = refl
    turn false false = refl

-- ---- a group whose blocks moved

settled_same : (a x : State) (h : ℕ) → x.chains ≡ a.chains → fork_claims x h ≡ fork_claims a h → settled_forks x h ≡ settled_forks a h
unfolding settled_forks pending
settled_same a x h chains forks =
    λ i. settled_by (flat_map (given_by h) (flat_map (chains i) (numbers 0 most_chains))) (flat_map (taken_by h) (flat_map (chains i) (numbers 0 most_chains))) (map tuple_of (forks i))

module _ (x b : State) (g : ℕ) (kept : Bool) (left ks : List Kind) (splits : Splits x.geometry) (alike : AlikeInodes x b) (chains : b.chains ≡ x.chains) (m : MovesBlocks kept left ks (x.group g) (b.group g)) (may : MayMove left x b g) where
  abbrev p : Group
  p = x.group g

  abbrev q : Group
  q = b.group g

  abbrev lost : List Owned
  lost = gone kept left ks p q m

  abbrev new : List Owned
  new = came kept left ks p q m

  -- what other metadata weighs
  abbrev rest : Tuple → ℕ
  rest t = weigh (is_owner t) (front_part x.geometry g) + weigh (limbo_weight (is_owner t)) p.reserve + weigh (is_owner t) (chunk_part (chunks x g))

  abbrev had : Tuple → Bool
  had t = has (map tuple_for (owners_in p)) t

  abbrev has_now : Tuple → Bool
  has_now t = has (map tuple_for (owners_in q)) t

  abbrev beside_them : Tuple → Bool
  beside_them t = nat_lt 0 (rest t)

  abbrev of_forks : Tuple → Bool
  of_forks t = has (settled_forks x g) t

  parted : (f o r c : ℕ) → nat_lt 0 (f + o + r + c) ≡ (nat_lt 0 (f + r + c) || nat_lt 0 o)
  parted f o r c = grind (arith, nat_tests)

  owns_before : (t : Tuple) → has (settled_own x g) t ≡ ((beside_them t || had t) || of_forks t)
  owns_before t =
      settled_is x g t
      ∙ ap (λ (z : Bool). z || of_forks t)
      (has_weight (metadata_claims x g) t ∙ ap (nat_lt 0) (metadata_is (is_owner t) (owner_plain t) x g)
      ∙ parted (weigh (is_owner t) (front_part x.geometry g)) (weigh (limbo_weight (is_owner t)) (owners_in p)) (weigh (limbo_weight (is_owner t)) p.reserve) (weigh (is_owner t) (chunk_part (chunks x g)))
      ∙ ap (λ (z : Bool). beside_them t || z) (sym (has_pairs (owners_in p) t)))

  owns_then : (t : Tuple) → has (settled_own b g) t ≡ ((beside_them t || has_now t) || of_forks t)
  owns_then t =
      settled_is b g t
      ∙ ap₂ (λ (y z : Bool). y || z)
      (has_weight (metadata_claims b g) t ∙ ap (nat_lt 0) (metadata_is (is_owner t) (owner_plain t) b g)
      ∙ (λ i. nat_lt 0 (weigh (is_owner t) (front_part (alike.geometry i) g) + weigh (limbo_weight (is_owner t)) (owners_in q) + weigh (limbo_weight (is_owner t)) (reserve_now kept left ks p q m i) + weigh (is_owner t) (chunk_part (chunks_same x b splits alike g i))))
      ∙ parted (weigh (is_owner t) (front_part x.geometry g)) (weigh (limbo_weight (is_owner t)) (owners_in q)) (weigh (limbo_weight (is_owner t)) p.reserve) (weigh (is_owner t) (chunk_part (chunks x g)))
      ∙ ap (λ (z : Bool). beside_them t || z) (sym (has_pairs (owners_in q) t)))
      (ap (λ ts. has ts t) (settled_same x b g chains (forks_same x b splits alike g)))

  pool_times : (k : ℕ) → times k (blocks_in (owners_in p)) ≡ times k (pool_of p)
  pool_times k = ap (times k) (blocks_are p)

  -- a block of theirs is nobody else's
  lonely : (t : Tuple) → 1 ≤ times t.block (blocks_in (owners_in p)) → (beside_them t ≡ false) × (of_forks t ≡ false)
  lonely t some =
      let k : ℕ = t.block in
      let s : Sound (ledger_at x g k) = may.sound k in
      let count = pool_times k in
      let owned = owned_sum k (claims x g) in
      let all = total_is (owned_by k) (owned_plain k) x g in
      let those = owned_times k (owners_in p) in
      let one = stands_alone x g k s some in
      let front = weigh_less (is_owner t) (owned_by k) (front_part x.geometry g) (owner_less t) in
      let reserve = weigh_less (limbo_weight (is_owner t)) (limbo_weight (owned_by k)) p.reserve (λ o. owner_less t (claimed_by Limbo o.owner o.block)) in
      let chunk = weigh_less (is_owner t) (owned_by k) (chunk_part (chunks x g)) (owner_less t) in (
        none_left (rest t) (sums _ _ _ _ _ _ _ _ _ _ _ owned all those one some front reserve chunk),
        may.forks t (omega (arith, some, count)),
      )
    where
      none_left : (n : ℕ) → n ≡ 0 → nat_lt 0 n ≡ false
      none_left n e = grind (arith, nat_tests)

      sums : (n w f o r c v t' f' r' c' : ℕ) → n ≡ w → w ≡ f + o + r + c + v → o ≡ t' → n ≡ 1 → 1 ≤ t' → f' ≤ f → r' ≤ r → c' ≤ c → f' + r' + c' ≡ 0
      sums n w f o r c v t' f' r' c' e1 e2 e3 e4 l l1 l2 l3 = omega (arith, e1, e2, e3, e4, l, l1, l2, l3)

  later : (t : Tuple) → has_now t ≡ true → 1 ≤ times t.block (blocks_in (owners_in p))
  later t h = let some = stands (owners_in q) t h in let same = times_now kept left ks p q m t.block in omega (arith, some, same)

  once_then : (k : ℕ) → times k (blocks_in (owners_in q)) ≤ 1
  once_then k = let s = stands_once x g k (may.sound k) in let same = times_now kept left ks p q m k in omega (arith, s, same)

  lost_once : (k : ℕ) → times k (blocks_in lost) ≤ 1
  lost_once k =
      let s = stands_once x g k (may.sound k) in
      let l = fewer (λ o. not (has_owned (owners_in q) o)) k (owners_in p) in
      let set = pairs_less k (lost_to (owners_in p) (owners_in q)) in
      omega (arith, s, l, set)

  new_once : (k : ℕ) → times k (blocks_in new) ≤ 1
  new_once k =
      let s = once_then k in
      let l = fewer (λ o. not (has_owned (owners_in p) o)) k (owners_in q) in
      let set = pairs_less k (lost_to (owners_in q) (owners_in p)) in
      omega (arith, s, l, set)

  its_block : (t : Tuple) → 1 ≤ times t.block (blocks_in (owners_in p)) → t.block < 2 ^ 32
  its_block t some = let e = pool_times t.block in may.small t.block (omega (arith, some, e))

  both_of : (y z : Bool) → (y && not z) ≡ true → (y ≡ true) × (z ≡ false)
  both_of true true h = absurd (false≢true h)
  both_of true false h = (refl, refl)
  both_of false z h = absurd (false≢true h)

  is_lost : (t : Tuple) → has (map tuple_for lost) t ≡ true → (t.block < 2 ^ 32) × (has (settled_own x g) t ≡ true)
  is_lost t h =
      let two = both_of (had t) (has_now t) (sym (lost_has (owners_in p) (owners_in q) t) ∙ h) in
      (its_block t (stands (owners_in p) t two.0), owns_before t ∙ ap (λ (z : Bool). (beside_them t || z) || of_forks t) two.0 ∙ middle (beside_them t) (of_forks t))
    where
      middle : (y z : Bool) → ((y || true) || z) ≡ true
      middle true z = refl
      middle false z = refl

  is_new : (t : Tuple) → has (map tuple_for new) t ≡ true → (t.block < 2 ^ 32) × (has (without lost (settled_own x g)) t ≡ false)
  is_new t h =
      let two = both_of (has_now t) (had t) (sym (lost_has (owners_in q) (owners_in p) t) ∙ h) in
      let some = later t two.0 in
      let none = lonely t some in
      let not_owned : has (settled_own x g) t ≡ false = owns_before t ∙ (λ i. (none.0 i || two.1 i) || none.1 i) in
      (its_block t some, has_passing (λ u. not (has (map tuple_for lost) u)) (settled_own x g) t ∙ ap (λ (z : Bool). z && not (has (map tuple_for lost) t)) not_owned)

  all_told : (t : Tuple) → has (settled_own b g) t ≡ has (map tuple_for new ++ without lost (settled_own x g)) t
  all_told t =
      owns_then t
      ∙ by (had t) refl (has_now t) refl
      ∙ sym (ap₂ (λ (y z : Bool). (has_now t && not (had t)) || (y && not z)) (owns_before t) (lost_has (owners_in p) (owners_in q) t))
      ∙ sym (has_both (map tuple_for new) (without lost (settled_own x g)) t
      ∙ ap₂ (λ (y z : Bool). y || z) (lost_has (owners_in q) (owners_in p) t) (has_passing (λ u. not (has (map tuple_for lost) u)) (settled_own x g) t))
    where
      up : (y z : Bool) → ((y || true) || z) ≡ true
      up true z = refl
      up false z = refl

      all_true : (y z : Bool) → true ≡ (((y || true) || z) && true)
      all_true true z = refl
      all_true false z = refl

      plain : (y z : Bool) → ((y || false) || z) ≡ (((y || false) || z) && true)
      plain y z = sym (and_all ((y || false) || z))

      none_true : (y z : Bool) → y ≡ false → z ≡ false → ((y || false) || z) ≡ (((y || true) || z) && false)
      none_true true z e f = absurd (true≢false e)
      none_true false true e f = absurd (true≢false f)
      none_true false false e f = refl

      by : (s : Bool) → had t ≡ s → (k : Bool) → has_now t ≡ k → ((beside_them t || k) || of_forks t) ≡ ((k && not s) || (((beside_them t || s) || of_forks t) && not (s && not k)))
      by true e true f = up (beside_them t) (of_forks t) ∙ all_true (beside_them t) (of_forks t)
      by true e false f = let none = lonely t (stands (owners_in p) t e) in none_true (beside_them t) (of_forks t) none.0 none.1
      by false e true f = up (beside_them t) (of_forks t)
      by false e false f = plain (beside_them t) (of_forks t)

  pub moved_told : AreTold x g → AreTold b g
  moved_told told =
      let taken : AreRuns (without lost (settled_own x g)) (take_each lost (mappings x g)) = taken_runs (settled_own x g) (mappings x g) lost lost_once is_lost may.untied_before told in
      let given : AreRuns (map tuple_for new ++ without lost (settled_own x g)) (give_each new (take_each lost (mappings x g))) =
      given_runs (without lost (settled_own x g)) (settled_own b g) (take_each lost (mappings x g)) new new_once is_new may.untied (λ t h. all_told t ∙ h) taken in
      subst (AreRuns (settled_own b g)) (sym (maps_written kept left ks p q m may.written)) (runs_by (map tuple_for new ++ without lost (settled_own x g)) (settled_own b g) all_told (give_each new (take_each lost (mappings x g))) given)

-- ---- behind an entry

own_same : (a x : State) (h : ℕ) → metadata_claims x h ≡ metadata_claims a h → settled_forks x h ≡ settled_forks a h → settled_own x h ≡ settled_own a h
unfolding settled_own
own_same a x h meta forks = λ i. set_of (map tuple_of (meta i) ++ forks i)

-- a group that is the same
still_told : (x b : State) (h : ℕ) → Splits x.geometry → AlikeInodes x b → b.chains ≡ x.chains → b.group h ≡ x.group h → AreTold x h → AreTold b h
still_told x b h splits alike chains e told =
    let parts : SameParts (x.group h) (b.group h) = subst (SameParts (x.group h)) (sym e) (same_parts (x.group h)) in
    let own : settled_own b h ≡ settled_own x h = own_same x b h (metadata_same x b h alike.geometry alike.chunks parts) (settled_same x b h chains (forks_same x b splits alike h)) in
    subst (λ ts. AreRuns ts (mappings b h)) (sym own) (subst (λ recs. AreRuns (settled_own x h) recs) (sym (ap (λ (p : Group). records_in p Rmap) e)) told)

loose_told : (a x b : State) (g : ℕ) (left ks : List Kind) → Splits x.geometry → Loosely g left ks a x b → (h : ℕ) → MayMove left x b h → AreTold x h → AreTold b h
loose_told a x b g left ks splits l h may told = by (h == g) refl
  where
    alike : AlikeInodes x b
    alike = loose_alike a x b g left ks splits l

    inside : (js : List Kind) → Inside a.geometry.inobtcount left js (x.group g) (b.group g) → MayMove left x b g → AreTold x g → AreTold b g
    inside [] m may told = still_told x b g splits alike l.chains m told
    inside (j ∷ js) m may told = moved_told x b g a.geometry.inobtcount left (j ∷ js) splits alike l.chains m may told

    by : (t : Bool) → (h == g) ≡ t → AreTold b h
    by true e = let same : h ≡ g = eqb-true h g e in subst (AreTold b) (sym same) (inside ks l.inside (subst (MayMove left x b) same may) (subst (AreTold x) same told))
    by false e = still_told x b h splits alike l.chains (l.others h (λ same. false≢true (sym e ∙ eq-eqb h g same))) told

pub told_behind : ToldBehind
told_behind a b left e h fit s may told = loose_told a s.decided b (group_of_entry a e) left (edited_in a left e) (decided_splits a b left e fit s) s.loosely h may told
