-- How many shareable records have a block, where a run comes or goes that isn't one.
use Rattle.std.specs.Prelude.{ℕ, Bool, true, false, not, List, [], ◌∷◌, find, Option, Some, None, ◌≡◌, ◌==◌, ◌&&◌, ◌+◌, ◌-◌, nat_le, nat_lt, map, min, refl}
use Rattle.std.specs.List.{count_by}
use Rattle.std.proofs.Common.{sym, ap, subst, ◌∙◌, arith, cond, eqb-true}
use Rattle.std.proofs.lemmas.Bool.{and_parts, false≢true}
use Rattle.std.proofs.lemmas.List.Sums.{sum_by-cons}
use Rattle.derive_defs.specs.Mappings.{covers}
use Rattle.derive_defs.specs.Shared.{refc_of, shared_space, sharers, shares}
use Rattle.fs_change.specs.Records.{give_mapping, take_mapping, without_first}
use Rattle.rmap_recs.specs.Owners.{is_inode}
use Rattle.rmap_recs.specs.Rmap.{can_join, is_shareable}
use Rattle.rmap_recs.specs.Words.{is_attribute, is_fork_tree, is_unwritten, word_goes_on}
use Rattle.rmap_recs.specs.declared.records.RmapRec.{RmapRec}
use Rattle.run_edits.specs.Edits.{back_of, front_of, grown, holds, is_before, joined_after, joined_before, put_if, put_rec, rest_put}
use Rattle.run_sets.specs.Runs.{most}
use Rattle.run_sets.specs.Stretches.{stretches}
use Rattle.law_accounts.specs.Edit.Counts.{SharedGiven, SharedTaken}

-- the owner of the record is no inode
abbrev IsPlain : RmapRec → Type 0
IsPlain r = is_inode r.owner ≡ false

plain_as : (p q : RmapRec) → p.owner ≡ q.owner → IsPlain q → IsPlain p
plain_as p q e h = ap is_inode e ∙ h

not_shared : (b : ℕ) (r : RmapRec) → IsPlain r → shares b r ≡ false
unfolding is_shareable
not_shared b r h = ap (λ (k : Bool). k && not (is_attribute r.word) && not (is_fork_tree r.word) && not (is_unwritten r.word) && covers b r) h

module _ (b : ℕ) where
  abbrev total : List RmapRec → ℕ
  total rs = count_by (shares b) rs

  one_more : (r : RmapRec) (rs : List RmapRec) → total (r ∷ rs) ≡ cond {A = ℕ} (shares b r) 1 0 + total rs
  one_more r rs = sum_by-cons (λ x. cond {A = ℕ} (shares b x) 1 0) r rs

  none_more : (r : RmapRec) (rs : List RmapRec) → IsPlain r → total (r ∷ rs) ≡ total rs
  none_more r rs h = one_more r rs ∙ ap (λ (k : Bool). cond {A = ℕ} k 1 0 + total rs) (not_shared b r h) ∙ zero_more (total rs)
    where
      zero_more : (n : ℕ) → 0 + n ≡ n
      zero_more n = omega arith

  also : (r : RmapRec) (xs ys : List RmapRec) → total xs ≡ total ys → total (r ∷ xs) ≡ total (r ∷ ys)
  also r xs ys e = one_more r xs ∙ ap (λ (n : ℕ). cond {A = ℕ} (shares b r) 1 0 + n) e ∙ sym (one_more r ys)

  put_total : (r : RmapRec) (rs : List RmapRec) → IsPlain r → total (put_rec r rs) ≡ total rs
  unfolding put_rec
  put_total r [] h = none_more r [] h
  put_total r (x ∷ xs) h = elim (is_before x r) as (λ t. total (cond t (x ∷ put_rec r xs) (r ∷ x ∷ xs)) ≡ total (x ∷ xs)) [
    | true ↦ also x (put_rec r xs) xs (put_total r xs h)
    | false ↦ none_more r (x ∷ xs) h
  ]

  without_total : (test : RmapRec → Bool) (rs : List RmapRec) → ((r : RmapRec) → test r ≡ true → IsPlain r) → total (without_first test rs) ≡ total rs
  without_total test [] h = refl
  without_total test (x ∷ xs) h = (elim (test x) as (λ t. test x ≡ t → total (cond t xs (x ∷ without_first test xs)) ≡ total (x ∷ xs)) [
    | true ↦ λ e. sym (none_more x xs (h x e))
    | false ↦ λ e. also x (without_first test xs) xs (without_total test xs h)
  ]) refl

-- ---- records that join, and one that lies in another, have one owner

joins_owner : (p q : RmapRec) → can_join p q ≡ true → q.owner ≡ p.owner
joins_owner p q h =
    let v = and_parts ((q.start == p.start + p.count) && (q.owner == p.owner)) (word_goes_on p.owner p.word p.count q.word) h in
    eqb-true q.owner p.owner (and_parts (q.start == p.start + p.count) (q.owner == p.owner) v.0).1

holder_owner : (p r : RmapRec) → holds p r ≡ true → r.owner ≡ p.owner
holder_owner p r h =
    let lies : Bool = nat_le p.start r.start && nat_le (r.start + r.count) (p.start + p.count) in
    let v = and_parts (lies && (r.owner == p.owner)) (word_goes_on p.owner p.word (r.start - p.start) r.word) h in
    eqb-true r.owner p.owner (and_parts lies (r.owner == p.owner) v.0).1

found_passes : (test : RmapRec → Bool) (rs : List RmapRec) (p : RmapRec) → find test rs ≡ Some p → test p ≡ true
found_passes test [] p h = absurd (nothing p h)
  where
    nothing : (p : RmapRec) → ◌≡◌ {A = Option RmapRec} None (Some p) → ⊥
    nothing p h = cc
found_passes test (x ∷ xs) p h = (elim (test x) as (λ t. test x ≡ t → cond t (Some x) (find test xs) ≡ Some p → test p ≡ true) [
  | true ↦ λ e k. ap test (sym (out k)) ∙ e
  | false ↦ λ e k. found_passes test xs p k
]) refl h
  where
    out : ◌≡◌ {A = Option RmapRec} (Some x) (Some p) → x ≡ p
    out k = cc

before_plain : (o : Option RmapRec) (r : RmapRec) → ((p : RmapRec) → o ≡ Some p → IsPlain p) → IsPlain r → IsPlain (joined_before o r)
before_plain None r f h = h
before_plain (Some p) r f h = f p refl

after_plain : (r : RmapRec) (o : Option RmapRec) → IsPlain r → IsPlain (joined_after r o)
after_plain r None h = h
after_plain r (Some q) h = h

given_total : (b : ℕ) (r : RmapRec) (rs : List RmapRec) → IsPlain r → total b (give_mapping r rs) ≡ total b rs
unfolding give_mapping
given_total b r rs h =
    put_total b (grown r rs) _ (after_plain (joined_before (find (λ p. can_join p r) rs) r) (find (λ q. can_join r q) rs)
    (before_plain (find (λ p. can_join p r) rs) r (λ p e. plain_as p r (sym (joins_owner p r (found_passes (λ p. can_join p r) rs p e))) h) h))
    ∙ without_total b (λ p. can_join p r) (without_first (can_join r) rs) (λ p e. plain_as p r (sym (joins_owner p r e)) h)
    ∙ without_total b (can_join r) rs (λ q e. plain_as q r (joins_owner r q e) h)

put_if_total : (b : ℕ) (t : Bool) (r : RmapRec) (rs : List RmapRec) → IsPlain r → total b (put_if t r rs) ≡ total b rs
put_if_total b true r rs h = put_total b r rs h
put_if_total b false r rs h = refl

rest_total : (b : ℕ) (o : Option RmapRec) (r : RmapRec) (rs : List RmapRec) → ((p : RmapRec) → o ≡ Some p → IsPlain p) → IsPlain r → total b (rest_put o r rs) ≡ total b rs
rest_total b None r rs f h = refl
rest_total b (Some p) r rs f h =
    put_if_total b (nat_lt p.start r.start) (front_of p r) _ (f p refl) ∙ put_if_total b (nat_lt (r.start + r.count) (p.start + p.count)) (back_of p r) rs h

taken_total : (b : ℕ) (r : RmapRec) (rs : List RmapRec) → IsPlain r → total b (take_mapping r rs) ≡ total b rs
unfolding take_mapping
taken_total b r rs h =
    let of_holder : (p : RmapRec) → holds p r ≡ true → IsPlain p = λ p e. plain_as p r (sym (holder_owner p r e)) h in
    rest_total b (find (λ p. holds p r) rs) r _ (λ p e. of_holder p (found_passes (λ p. holds p r) rs p e)) h
    ∙ without_total b (λ p. holds p r) rs of_holder

same_shared : (ms ns : List RmapRec) → ((b : ℕ) → count_by (shares b) ns ≡ count_by (shares b) ms) → shared_space ns ≡ shared_space ms
unfolding shared_space sharers
same_shared ms ns e = λ i. map refc_of (stretches (λ b. min (e b i) most) 2 most)

pub shared_given : SharedGiven
shared_given r ms h = same_shared ms (give_mapping r ms) (λ b. given_total b r ms h)

pub shared_taken : SharedTaken
shared_taken r ms h = same_shared ms (take_mapping r ms) (λ b. taken_total b r ms h)
