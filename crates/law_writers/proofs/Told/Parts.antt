-- Owners of a group's metadata, part by part, and those of a run.
use Rattle.std.proofs.Common.{◌≡◌, ℕ, zero, suc, ◌+◌, ◌<◌, ◌≤◌, ◌==◌, ◌&&◌, ◌||◌, Bool, true, false, cond, nat_le, nat_lt, List, [], ◌∷◌, ◌++◌, map, filter, refl, sym, ap, ap₂, subst, ◌∙◌, arith, eqb-true, eq-eqb}
use Rattle.std.specs.Prelude.{if◌then◌else◌}
use Rattle.std.specs.List.{list_any}
use Rattle.std.proofs.lemmas.Bool.{false≢true, and_parts}
use Rattle.std.proofs.lemmas.Bool.Decides.{nat_tests}
use Rattle.std.proofs.lemmas.List.Sums.{sum_by-cons}
use Rattle.law_accounts.specs.Account.Accounts.{in_span, owned_at}
use Rattle.law_writers.proofs.Change.Members.{any_filter, both_ways, found, hasc, hasc_both, which}
use Rattle.fs_change.proofs.Sets.{same_is, same_self}
use Rattle.fs_change.specs.Chains.{tuples_of}
use Rattle.fs_change.specs.Changes.{plain_run}
use Rattle.fs_state.specs.Chunks.{chunks}
use Rattle.fs_state.specs.Claims.{Claimed, claimed_by, metadata_claims}
use Rattle.fs_state.specs.Lists.{numbers}
use Rattle.fs_state.specs.Own.{tuple_of}
use Rattle.fs_model.specs.declared.claim.Claim.{Claim}
use Rattle.fs_model.specs.declared.entry.Extent.{Extent}
use Rattle.fs_state.specs.State.{State}
use Rattle.law_accounts.proofs.Owner.Finished.{run_of_has}
use Rattle.rmap_recs.specs.Owners.{is_inode, number_of}
use Rattle.rmap_recs.specs.Runs.{has, is_same, tuple_at}
use Rattle.rmap_recs.specs.Words.{is_fork_data}
use Rattle.rmap_recs.specs.declared.owner.Owner.TheVariants.{Ag}
use Rattle.rmap_recs.specs.declared.tuples.Tuple.{Tuple}
use Rattle.law_writers.proofs.Run.Listed.{chunk_part, head_part, limbo_part, list_part, reserve_part, tree_part}
use Rattle.tree_defs.specs.Lists.{is_in}

pub metadata_has : (a : State) (g : ℕ) (t : Tuple) → hasc (metadata_claims a g) t
    ≡ (((((hasc (head_part a g) t || hasc (list_part (a.group g).free_list) t) || hasc (tree_part (a.group g)) t) || hasc (reserve_part (a.group g)) t) || hasc (limbo_part (a.group g)) t) || hasc (chunk_part (chunks a g)) t)
unfolding metadata_claims
metadata_has a g t =
    hasc_both ((((head_part a g ++ list_part (a.group g).free_list) ++ tree_part (a.group g)) ++ reserve_part (a.group g)) ++ limbo_part (a.group g)) (chunk_part (chunks a g)) t
    ∙ ap (λ z. z || hasc (chunk_part (chunks a g)) t)
    (hasc_both (((head_part a g ++ list_part (a.group g).free_list) ++ tree_part (a.group g)) ++ reserve_part (a.group g)) (limbo_part (a.group g)) t
    ∙ ap (λ z. z || hasc (limbo_part (a.group g)) t)
    (hasc_both ((head_part a g ++ list_part (a.group g).free_list) ++ tree_part (a.group g)) (reserve_part (a.group g)) t
    ∙ ap (λ z. z || hasc (reserve_part (a.group g)) t)
    (hasc_both (head_part a g ++ list_part (a.group g).free_list) (tree_part (a.group g)) t
    ∙ ap (λ z. z || hasc (tree_part (a.group g)) t) (hasc_both (head_part a g) (list_part (a.group g).free_list) t))))

-- ---- a run whose word stays 0

plain_word : (owner : ℕ) → is_inode owner ≡ false → is_fork_data owner 0 ≡ false
unfolding is_fork_data
plain_word owner e = ap (λ b. b && true) e

abbrev pub of_run : Claim → ℕ → List ℕ → List Claimed
of_run k owner bs = map (claimed_by k owner) bs

run_from : (k : Claim) (owner : ℕ) (e : Extent) (j n : ℕ) (t : Tuple) → is_inode owner ≡ false → hasc (of_run k owner (numbers (e.block + j) n)) t ≡ has (map (tuple_at (plain_run owner e)) (numbers j n)) t
run_from k owner e j zero t out = refl
run_from k owner e j (suc n) t out =
    ap₂ (λ w z. (((t.block == e.block + j) && (t.owner == owner)) && (t.word == (if w then 0 + j else 0))) || z) (sym (plain_word owner out))
    (ap (λ m. hasc (of_run k owner (numbers m n)) t) (along e.block j) ∙ run_from k owner e (j + 1) n t out)
  where
    along : (x j : ℕ) → x + j + 1 ≡ x + (j + 1)
    along x j = omega arith

pub run_has : (k : Claim) (owner : ℕ) (e : Extent) (t : Tuple) → is_inode owner ≡ false → hasc (of_run k owner (numbers e.block e.count)) t ≡ has (tuples_of (plain_run owner e)) t
run_has k owner e t out = ap (λ m. hasc (of_run k owner (numbers m e.count)) t) (none e.block) ∙ run_from k owner e 0 e.count t out
  where
    none : (x : ℕ) → x ≡ x + 0
    none x = omega arith

-- a tuple of the run has a block of it
pub run_inside : (owner : ℕ) (e : Extent) (t : Tuple) → has (tuples_of (plain_run owner e)) t ≡ true → (in_span e.block e.count t.block ≡ true) × (t.owner ≡ owner)
run_inside owner e t h =
    let of = run_of_has (plain_run owner e) t h in
    (subst (λ b. in_span e.block e.count b ≡ true) (ap (λ (u : Tuple). u.block) of.2) (inside e.block of.0 e.count of.1), sym (ap (λ (u : Tuple). u.owner) of.2))
  where
    inside : (s i n : ℕ) → i < n → (nat_le s (s + i) && nat_lt (s + i) (s + n)) ≡ true
    inside s i n l = grind (arith, nat_tests)

-- ---- blocks of the list

abbrev pub list_tuple : ℕ → Tuple
list_tuple b = record { block = b; owner = number_of Ag; word = 0 }

pub list_both : (t : Tuple) (bs cs : List ℕ) → hasc (list_part (bs ++ cs)) t ≡ (hasc (list_part bs) t || hasc (list_part cs) t)
list_both t [] cs = refl
list_both t (b ∷ bs) cs = ap (λ z. is_same t (list_tuple b) || z) (list_both t bs cs) ∙ again (is_same t (list_tuple b)) (hasc (list_part bs) t) (hasc (list_part cs) t)
  where
    again : (p q r : Bool) → (p || (q || r)) ≡ ((p || q) || r)
    again true q r = refl
    again false q r = refl

-- a tuple of the list has a block of it
pub listed_has : (t : Tuple) (bs : List ℕ) → hasc (list_part bs) t ≡ true → (is_in t.block bs ≡ true) × (t ≡ list_tuple t.block)
listed_has t [] h = absurd (false≢true h)
listed_has t (b ∷ bs) h = by (is_same t (list_tuple b)) refl h (listed_has t bs)
  where
    or_right : (p q : Bool) → q ≡ true → (p || q) ≡ true
    or_right true q e = refl
    or_right false q e = e

    by : (k : Bool) → is_same t (list_tuple b) ≡ k → (k || hasc (list_part bs) t) ≡ true → (hasc (list_part bs) t ≡ true → (is_in t.block bs ≡ true) × (t ≡ list_tuple t.block)) → (is_in t.block (b ∷ bs) ≡ true) × (t ≡ list_tuple t.block)
    by true e i rest =
        let same : t ≡ list_tuple b = same_is t (list_tuple b) e in
        (ap (λ z. z || is_in t.block bs) (eq-eqb b t.block (sym (ap (λ (u : Tuple). u.block) same))), same ∙ ap list_tuple (sym (ap (λ (u : Tuple). u.block) same)))
    by false e i rest = let r = rest i in (or_right (b == t.block) (is_in t.block bs) r.0, r.1)

pub has_listed : (t : Tuple) (bs : List ℕ) → is_in t.block bs ≡ true → t ≡ list_tuple t.block → hasc (list_part bs) t ≡ true
has_listed t [] h same = absurd (false≢true h)
has_listed t (b ∷ bs) h same = by (b == t.block) refl h (λ k. has_listed t bs k same)
  where
    or_right : (p q : Bool) → q ≡ true → (p || q) ≡ true
    or_right true q e = refl
    or_right false q e = e

    by : (k : Bool) → (b == t.block) ≡ k → (k || is_in t.block bs) ≡ true → (is_in t.block bs ≡ true → hasc (list_part bs) t ≡ true) → (is_same t (list_tuple b) || hasc (list_part bs) t) ≡ true
    by true e i rest = ap (λ z. z || hasc (list_part bs) t) (ap (is_same t) (ap list_tuple (eqb-true b t.block e) ∙ sym same) ∙ same_self t)
    by false e i rest = or_right (is_same t (list_tuple b)) (hasc (list_part bs) t) (rest i)

-- blocks that stay
pub in_rest : (p : ℕ → Bool) (b : ℕ) (bs : List ℕ) → is_in b (filter p bs) ≡ (is_in b bs && p b)
in_rest p b [] = refl
in_rest p b (c ∷ bs) = by (p c) refl (c == b) refl (in_rest p b bs)
  where
    by : (k : Bool) → p c ≡ k → (m : Bool) → (c == b) ≡ m → is_in b (filter p bs) ≡ (is_in b bs && p b) → is_in b (cond k (c ∷ filter p bs) (filter p bs)) ≡ ((m || is_in b bs) && p b)
    by true e true f rest = ap (λ z. z || is_in b (filter p bs)) f ∙ sym (ap p (sym (eqb-true c b f)) ∙ e)
    by true e false f rest = ap (λ z. z || is_in b (filter p bs)) f ∙ rest
    by false e true f rest = rest ∙ none (is_in b bs) (p b) (ap p (sym (eqb-true c b f)) ∙ e)
      where
        none : (x y : Bool) → y ≡ false → (x && y) ≡ y
        none true y h = refl
        none false y h = sym h
    by false e false f rest = rest

-- a claim is counted
pub counted : (cs : List Claimed) (t : Tuple) → hasc cs t ≡ true → 1 ≤ owned_at t.block cs
counted [] t h = absurd (false≢true h)
counted (c ∷ cs) t h = by (is_same t (tuple_of c)) refl h (counted cs t) (sum_by-cons (λ (x : Claimed). if x.block == t.block then 1 else 0) c cs)
  where
    one : (b : Bool) → b ≡ true → 1 ≤ (if b then 1 else 0)
    one true e = omega arith
    one false e = absurd (false≢true e)

    by : (k : Bool) → is_same t (tuple_of c) ≡ k → (k || hasc cs t) ≡ true → (hasc cs t ≡ true → 1 ≤ owned_at t.block cs) → owned_at t.block (c ∷ cs) ≡ (if c.block == t.block then 1 else 0) + owned_at t.block cs → 1 ≤ owned_at t.block (c ∷ cs)
    by true e i rest s = let o = one (c.block == t.block) (eq-eqb c.block t.block (sym (ap (λ (u : Tuple). u.block) (same_is t (tuple_of c) e)))) in omega (arith, o, s)
    by false e i rest s = let o = rest i in omega (arith, o, s)

-- ---- units of which one is new

pub unit_new : (H p q : ℕ → Bool) (v n : ℕ) → v < n → q v ≡ true → ((u : ℕ) → (u == v) ≡ false → q u ≡ p u) → list_any H (filter q (numbers 0 n)) ≡ (list_any H (filter p (numbers 0 n)) || H v)
unit_new H p q v n l there same =
    any_filter H q (numbers 0 n) ∙ both_ways _ _ forth back ∙ ap (λ z. z || H v) (sym (any_filter H p (numbers 0 n)))
  where
    or_left : (x y : Bool) → x ≡ true → (x || y) ≡ true
    or_left true y e = refl
    or_left false y e = absurd (false≢true e)

    or_right : (x y : Bool) → y ≡ true → (x || y) ≡ true
    or_right true y e = refl
    or_right false y e = e

    forth : list_any (λ u. q u && H u) (numbers 0 n) ≡ true → (list_any (λ u. p u && H u) (numbers 0 n) || H v) ≡ true
    forth h =
        let w = which (λ u. q u && H u) 0 n h in
        let k = and_parts (q w.0) (H w.0) w.3 in
        by w.0 w.1 w.2 k.0 k.1 (w.0 == v) refl
      where
        by : (u : ℕ) → 0 ≤ u → u < 0 + n → q u ≡ true → H u ≡ true → (t : Bool) → (u == v) ≡ t → (list_any (λ u. p u && H u) (numbers 0 n) || H v) ≡ true
        by u lo hi a b true e = or_right (list_any (λ u. p u && H u) (numbers 0 n)) (H v) (ap H (sym (eqb-true u v e)) ∙ b)
        by u lo hi a b false e = or_left (list_any (λ u. p u && H u) (numbers 0 n)) (H v) (found (λ u. p u && H u) 0 n u lo hi (ap₂ (λ x y. x && y) (sym (same u e) ∙ a) b))

    back : (list_any (λ u. p u && H u) (numbers 0 n) || H v) ≡ true → list_any (λ u. q u && H u) (numbers 0 n) ≡ true
    back h = by (list_any (λ u. p u && H u) (numbers 0 n)) refl h
      where
        from_one : (u : ℕ) → 0 ≤ u → u < 0 + n → p u ≡ true → H u ≡ true → (t : Bool) → (u == v) ≡ t → list_any (λ u. q u && H u) (numbers 0 n) ≡ true
        from_one u lo hi a b true e = found (λ u. q u && H u) 0 n u lo hi (ap₂ (λ x y. x && y) (ap q (eqb-true u v e) ∙ there) b)
        from_one u lo hi a b false e = found (λ u. q u && H u) 0 n u lo hi (ap₂ (λ x y. x && y) (same u e ∙ a) b)

        by : (t : Bool) → list_any (λ u. p u && H u) (numbers 0 n) ≡ t → (t || H v) ≡ true → list_any (λ u. q u && H u) (numbers 0 n) ≡ true
        by true e i = let w = which (λ u. p u && H u) 0 n e in let k = and_parts (p w.0) (H w.0) w.3 in from_one w.0 w.1 w.2 k.0 k.1 (w.0 == v) refl
        by false e i = found (λ u. q u && H u) 0 n v (omega arith) (omega (arith, l)) (ap₂ (λ x y. x && y) there i)
