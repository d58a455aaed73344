-- Settled owners by their parts, and maximal runs of owners by who they are.
use Rattle.std.proofs.Common.{◌≡◌, ℕ, ◌+◌, ◌<◌, ◌≤◌, ◌==◌, ◌&&◌, ◌||◌, Bool, true, false, List, [], ◌∷◌, ◌++◌, map, flat_map, Contains, refl, ap, ap₂, sym, subst, ◌∙◌, inl, inr, arith}
use Rattle.std.specs.Prelude.{◌*◌, ◌/◌, filter, nat_lt, if◌then◌else◌}
use Rattle.std.proofs.Common.{cond}
use Rattle.std.proofs.lemmas.Bool.Decides.{nat_tests}
use Rattle.fs_change.proofs.Sets.{has_both, has_of, has_set, of_has}
use Rattle.fs_change.specs.Chains.{settled_forks, settled_own}
use Rattle.fs_change.specs.Loose.{owners_in, pool_of, tree_blocks}
use Rattle.fs_state.specs.Chunks.{chunks}
use Rattle.fs_state.specs.Claims.{Claimed, claimed_by, log_claims, metadata_claims}
use Rattle.fs_state.specs.Records.{all_kinds, tree_owner}
use Rattle.fs_state.specs.Lists.{numbers}
use Rattle.fs_state.specs.Own.{tuple_of}
use Rattle.fs_model.specs.declared.claim.Claim.TheVariants.{Heads, List as FreeList, Tree, Reserve, Limbo, Chunk}
use Rattle.fs_change.specs.Switch.{join_limbo}
use Rattle.fs_state.specs.State.{State, Group, Owned, blocks_of, comes_first, pairs_of, put_pair}
use Rattle.geom.specs.Layout.{Layout, group_len_of}
use Rattle.rmap_recs.specs.Owners.{number_of}
use Rattle.rmap_recs.specs.Rmap.{is_first}
use Rattle.rmap_recs.specs.Runs.{AreRuns, IsRun, has, is_same}
use Rattle.rmap_recs.specs.declared.owner.Owner.TheVariants.{Fs, Ag, Inodes}
use Rattle.rmap_recs.specs.declared.records.RmapRec.{RmapRec}
use Rattle.rmap_recs.specs.declared.tuples.Tuple.{Tuple}
use Rattle.sblock.specs.declared.kind.Kind.{Kind}
use Rattle.law_accounts.proofs.Account.Framed.{SameParts}
use Rattle.law_accounts.specs.Account.Stated.{ChunksStay}

abbrev pub has_metadata : State → ℕ → Tuple → Bool
has_metadata s g t = has (map tuple_of (metadata_claims s g)) t

pub settled_is : (s : State) (g : ℕ) (t : Tuple) → has (settled_own s g) t ≡ (has_metadata s g t || has (settled_forks s g) t)
unfolding settled_own
settled_is s g t = has_set (map tuple_of (metadata_claims s g) ++ settled_forks s g) t ∙ has_both (map tuple_of (metadata_claims s g)) (settled_forks s g) t

-- ---- runs by who owns what

module _ (ts us : List Tuple) (same : (t : Tuple) → has us t ≡ has ts t) where
  to : (t : Tuple) → Contains ts t → Contains us t
  to t c = of_has us t (same t ∙ has_of ts t c)

  back : (t : Tuple) → Contains us t → Contains ts t
  back t c = of_has ts t (sym (same t) ∙ has_of us t c)

  pub runs_by : (recs : List RmapRec) → AreRuns ts recs → AreRuns us recs
  runs_by recs runs = record {
    maximal = λ r c. let m = runs.maximal r c in record {
      some = m.some;
      within = λ i lt. to _ (m.within i lt);
      consecutive = m.consecutive;
      first = λ t d. m.first t (back t d);
      last = λ t d. m.last t (back t d);
    };
    all = λ t c. runs.all t (back t c);
    rising = runs.rising;
  }

-- ---- metadata of two states

pub same_chunks : (a x : State) → x.geometry ≡ a.geometry → ChunksStay a x → (g : ℕ) → chunks x g ≡ chunks a g
unfolding chunks
same_chunks a x at stay g = λ i. filter (λ u. stay g u i) (numbers 0 (group_len_of (at i) g / 8))

-- all parts are the same
pub metadata_same : (a x : State) (g : ℕ) → x.geometry ≡ a.geometry → ChunksStay a x → SameParts (a.group g) (x.group g) → metadata_claims x g ≡ metadata_claims a g
unfolding metadata_claims
metadata_same a x g at stay same = λ i. claimed_by Heads (number_of Fs) 0 ∷ log_claims (at i).log g
    ++ map (claimed_by FreeList (number_of Ag)) (same.list i)
    ++ flat_map (λ k. map (claimed_by (Tree k) (tree_owner k)) (same.blocks k i)) all_kinds
    ++ map (λ (o : Owned). claimed_by Reserve o.owner o.block) (same.reserve i)
    ++ map (λ (o : Owned). claimed_by Limbo o.owner o.block) (same.limbo i)
    ++ flat_map (λ u. map (claimed_by Chunk (number_of Inodes)) (numbers (8 * u) 8)) (same_chunks a x at stay g i)

-- ---- a reserve that becomes limbo

module _ (t : Tuple) where
  abbrev owned_tuple : Owned → Tuple
  owned_tuple o = record { block = o.block; owner = o.owner; word = 0 }

  no_first : (a b : ℕ) (p : Bool) → is_first a b p ≡ false → nat_lt a b ≡ false
  no_first a b p h = grind (arith, nat_tests)

  no_rest : (a b : ℕ) (p : Bool) → is_first a b p ≡ false → a ≡ b → p ≡ false
  no_rest a b p h e = grind (arith, nat_tests)

  one_number : (a b : ℕ) → nat_lt a b ≡ false → nat_lt b a ≡ false → a ≡ b
  one_number a b h i = grind (arith, nat_tests)

  same_pair : (o p : Owned) → comes_first o p ≡ false → comes_first p o ≡ false → owned_tuple o ≡ owned_tuple p
  same_pair o p h i =
      let blocks : o.block ≡ p.block = one_number o.block p.block (no_first o.block p.block (nat_lt o.owner p.owner) h) (no_first p.block o.block (nat_lt p.owner o.owner) i) in
      let owners : o.owner ≡ p.owner = one_number o.owner p.owner (no_rest o.block p.block (nat_lt o.owner p.owner) h blocks) (no_rest p.block o.block (nat_lt p.owner o.owner) i (sym blocks)) in
      λ j. record { block = blocks j; owner = owners j; word = 0 }

  abbrev has_pair : List Owned → Bool
  has_pair os = has (map owned_tuple os) t

  swap : (x y z : Bool) → (x || (y || z)) ≡ (y || (x || z))
  swap true true z = refl
  swap true false z = refl
  swap false y z = refl

  twice : (x z : Bool) → (x || z) ≡ (x || (x || z))
  twice true z = refl
  twice false z = refl

  has_put : (o : Owned) (ps : List Owned) → has_pair (put_pair o ps) ≡ (is_same t (owned_tuple o) || has_pair ps)
  has_put o [] = refl
  has_put o (p ∷ ps) = (elim (comes_first o p) as (λ b. comes_first o p ≡ b → has_pair (cond b (o ∷ p ∷ ps) (cond (comes_first p o) (p ∷ put_pair o ps) (p ∷ ps))) ≡ (is_same t (owned_tuple o) || (is_same t (owned_tuple p) || has_pair ps))) [
    | true ↦ λ h. refl
    | false ↦ λ h. (elim (comes_first p o) as (λ b. comes_first p o ≡ b → has_pair (cond b (p ∷ put_pair o ps) (p ∷ ps)) ≡ (is_same t (owned_tuple o) || (is_same t (owned_tuple p) || has_pair ps))) [
      | true ↦ λ i. ap (λ (k : Bool). is_same t (owned_tuple p) || k) (has_put o ps) ∙ swap (is_same t (owned_tuple p)) (is_same t (owned_tuple o)) (has_pair ps)
      | false ↦ λ i. twice (is_same t (owned_tuple p)) (has_pair ps) ∙ ap (λ (u : Tuple). is_same t u || (is_same t (owned_tuple p) || has_pair ps)) (sym (same_pair o p h i))
    ]) refl
  ]) refl

  has_pairs : (os : List Owned) → has_pair (pairs_of os) ≡ has_pair os
  has_pairs [] = refl
  has_pairs (o ∷ os) = has_put o (pairs_of os) ∙ ap (λ (k : Bool). is_same t (owned_tuple o) || k) (has_pairs os)

  reserve_tuples : (os : List Owned) → has (map tuple_of (map (λ (o : Owned). claimed_by Reserve o.owner o.block) os)) t ≡ has_pair os
  reserve_tuples [] = refl
  reserve_tuples (o ∷ os) = ap (λ (k : Bool). is_same t (owned_tuple o) || k) (reserve_tuples os)

  limbo_tuples : (os : List Owned) → has (map tuple_of (map (λ (o : Owned). claimed_by Limbo o.owner o.block) os)) t ≡ has_pair os
  limbo_tuples [] = refl
  limbo_tuples (o ∷ os) = ap (λ (k : Bool). is_same t (owned_tuple o) || k) (limbo_tuples os)

  split : (cs ds : List Claimed) → has (map tuple_of (cs ++ ds)) t ≡ (has (map tuple_of cs) t || has (map tuple_of ds) t)
  split [] ds = refl
  split (c ∷ cs) ds = ap (λ (k : Bool). is_same t (tuple_of c) || k) (split cs ds) ∙ sym (joined (is_same t (tuple_of c)) (has (map tuple_of cs) t) (has (map tuple_of ds) t))
    where
      joined : (x y z : Bool) → ((x || y) || z) ≡ (x || (y || z))
      joined true y z = refl
      joined false y z = refl

  both_pairs : (os ps : List Owned) → has_pair (os ++ ps) ≡ (has_pair os || has_pair ps)
  both_pairs [] ps = refl
  both_pairs (o ∷ os) ps = ap (λ (k : Bool). is_same t (owned_tuple o) || k) (both_pairs os ps) ∙ sym (joined (is_same t (owned_tuple o)) (has_pair os) (has_pair ps))
    where
      joined : (x y z : Bool) → ((x || y) || z) ≡ (x || (y || z))
      joined true y z = refl
      joined false y z = refl

  -- what stands in front of both, and behind them
  abbrev around : List Claimed → List Owned → List Owned → List Claimed → List Claimed
  around front rs ls back = front ++ map (λ (o : Owned). claimed_by Reserve o.owner o.block) rs ++ map (λ (o : Owned). claimed_by Limbo o.owner o.block) ls ++ back

  around_is : (front back : List Claimed) (rs ls : List Owned) → has (map tuple_of (around front rs ls back)) t ≡ (((has (map tuple_of front) t || has_pair rs) || has_pair ls) || has (map tuple_of back) t)
  around_is front back rs ls =
      let one : List Claimed = front ++ map (λ (o : Owned). claimed_by Reserve o.owner o.block) rs in
      let two : List Claimed = one ++ map (λ (o : Owned). claimed_by Limbo o.owner o.block) ls in
      split two back
      ∙ ap (λ (k : Bool). k || has (map tuple_of back) t) (split one (map (λ (o : Owned). claimed_by Limbo o.owner o.block) ls) ∙ ap₂ (λ (k m : Bool). k || m) (split front (map (λ (o : Owned). claimed_by Reserve o.owner o.block) rs) ∙ ap (λ (k : Bool). has (map tuple_of front) t || k) (reserve_tuples rs)) (limbo_tuples ls))

  pub joined_limbo : (front back : List Claimed) (rs ls : List Owned) → has (map tuple_of (around front [] (join_limbo rs ls) back)) t ≡ has (map tuple_of (around front rs ls back)) t
  joined_limbo front back rs ls =
      around_is front back [] (join_limbo rs ls)
      ∙ ap (λ (k : Bool). ((has (map tuple_of front) t || false) || k) || has (map tuple_of back) t) (has_pairs (rs ++ ls) ∙ both_pairs rs ls)
      ∙ ap (λ (k : Bool). k || has (map tuple_of back) t) (arranged (has (map tuple_of front) t) (has_pair rs) (has_pair ls))
      ∙ sym (around_is front back rs ls)
    where
      arranged : (x y z : Bool) → ((x || false) || (y || z)) ≡ ((x || y) || z)
      arranged true y z = refl
      arranged false y z = refl
