-- What the blocks of a group's list, trees and limbo add to sums over claims.
use Rattle.std.proofs.Common.{◌≡◌, ℕ, ◌+◌, ◌≤◌, ◌==◌, ◌&&◌, Bool, true, false, List, [], ◌∷◌, ◌++◌, map, flat_map, refl, ap, ap₂, sym, ◌∙◌, arith, if◌then◌else◌}
use Rattle.fs_change.specs.Loose.{owners_in}
use Rattle.fs_change.specs.Switch.{owned_by as with_owner}
use Rattle.fs_change.proofs.Sets.{has_set}
use Rattle.fs_state.specs.Chunks.{chunks}
use Rattle.fs_state.specs.Claims.{Claimed, claimed_by, claims, fork_claims, metadata_claims}
use Rattle.fs_state.specs.Contradiction.{is_written_data}
use Rattle.fs_state.specs.Records.{all_kinds, tree_owner}
use Rattle.fs_state.specs.Own.{own, tuple_of}
use Rattle.fs_model.specs.declared.claim.Claim.TheVariants.{List as FreeList, Tree, Reserve, Limbo}
use Rattle.fs_state.specs.State.{State, Group, Owned, blocks_in}
use Rattle.rmap_recs.specs.Owners.{number_of}
use Rattle.rmap_recs.specs.Runs.{has}
use Rattle.rmap_recs.specs.declared.owner.Owner.TheVariants.{Ag}
use Rattle.rmap_recs.specs.declared.tuples.Tuple.{Tuple}
use Rattle.sblock.specs.declared.kind.Kind.{Kind}
use Rattle.std.specs.Prelude.{nat_lt}
use Rattle.tree_defs.specs.Lists.{times}
use Rattle.law_repairs.proofs.Repair.Totals.{alone_by, chunk_part, claims_weight, front_part, has_weight, is_owner, limbo_weight, metadata_parts, owned_by, parts, parts_weight, reserved_weight, tree_part, weigh, weigh_both, weigh_map}
use Rattle.law_repairs.proofs.Move.Pairs.{tree_pairs}

-- claims of the list and of trees count as those of limbo do, and those of the reserve too
pub record IsPlain (w : Claimed → ℕ) : Type 0 where
  pub list : (b : ℕ) → w (claimed_by FreeList (number_of Ag) b) ≡ limbo_weight w (with_owner (number_of Ag) b)
  pub tree : (k : Kind) (b : ℕ) → w (claimed_by (Tree k) (tree_owner k) b) ≡ limbo_weight w (with_owner (tree_owner k) b)
  pub reserve : (o : Owned) → reserved_weight w o ≡ limbo_weight w o

pub owned_plain : (b : ℕ) → IsPlain (owned_by b)
owned_plain b = record { list = λ c. refl; tree = λ k c. refl; reserve = λ o. refl }

pub alone_plain : (b : ℕ) → IsPlain (alone_by b)
unfolding is_written_data
alone_plain b = record { list = λ c. refl; tree = λ k c. refl; reserve = λ o. refl }

pub owner_plain : (t : Tuple) → IsPlain (is_owner t)
owner_plain t = record { list = λ c. refl; tree = λ k c. refl; reserve = λ o. refl }

weigh_same : {X : Type 0} (f h : X → ℕ) (xs : List X) → ((x : X) → f x ≡ h x) → weigh f xs ≡ weigh h xs
weigh_same f h [] e = refl
weigh_same f h (x ∷ xs) e = ap₂ (λ (m n : ℕ). m + n) (e x) (weigh_same f h xs e)

module _ (w : Claimed → ℕ) (plain : IsPlain w) where
  listed : (bs : List ℕ) → weigh w (map (claimed_by FreeList (number_of Ag)) bs) ≡ weigh (limbo_weight w) (map (with_owner (number_of Ag)) bs)
  listed bs =
      weigh_map w (claimed_by FreeList (number_of Ag)) bs
      ∙ weigh_same (λ b. w (claimed_by FreeList (number_of Ag) b)) (λ b. limbo_weight w (with_owner (number_of Ag) b)) bs plain.list
      ∙ sym (weigh_map (limbo_weight w) (with_owner (number_of Ag)) bs)

  one_tree : (p : Group) (k : Kind) → weigh w (tree_part p k) ≡ weigh (limbo_weight w) (tree_pairs p k)
  one_tree p k =
      weigh_map w (claimed_by (Tree k) (tree_owner k)) _
      ∙ weigh_same (λ b. w (claimed_by (Tree k) (tree_owner k) b)) (λ b. limbo_weight w (with_owner (tree_owner k) b)) _ (plain.tree k)
      ∙ sym (weigh_map (limbo_weight w) (with_owner (tree_owner k)) _)

  trees : (p : Group) (ks : List Kind) → weigh w (flat_map (tree_part p) ks) ≡ weigh (limbo_weight w) (flat_map (tree_pairs p) ks)
  trees p [] = refl
  trees p (k ∷ ks) =
      weigh_both w (tree_part p k) (flat_map (tree_part p) ks) ∙ ap₂ (λ (m n : ℕ). m + n) (one_tree p k) (trees p ks)
      ∙ sym (weigh_both (limbo_weight w) (tree_pairs p k) (flat_map (tree_pairs p) ks))

  -- a sum over all claims of a group, by its parts
  pub total_is : (s : State) (g : ℕ) → weigh w (claims s g)
      ≡ weigh w (front_part s.geometry g) + weigh (limbo_weight w) (owners_in (s.group g)) + weigh (limbo_weight w) (s.group g).reserve + weigh w (chunk_part (chunks s g)) + weigh w (fork_claims s g)
  total_is s g =
      let p : Group = s.group g in
      let list : List Owned = map (with_owner (number_of Ag)) p.free_list in
      let all : List Owned = flat_map (tree_pairs p) all_kinds in
      let one = weigh_both (limbo_weight w) (list ++ all) p.limbo in
      let two = weigh_both (limbo_weight w) list all in
      sums (weigh w (front_part s.geometry g)) (weigh w (map (claimed_by FreeList (number_of Ag)) p.free_list)) (weigh w (flat_map (tree_part p) all_kinds)) (weigh (reserved_weight w) p.reserve) (weigh (limbo_weight w) p.limbo) (weigh w (chunk_part (chunks s g)))
      (weigh w (fork_claims s g)) (weigh w (claims s g)) (weigh w (parts s.geometry g p (chunks s g))) (weigh (limbo_weight w) (owners_in p)) (weigh (limbo_weight w) (list ++ all)) (weigh (limbo_weight w) list) (weigh (limbo_weight w) all) (weigh (limbo_weight w) p.reserve)
      (claims_weight w s g) (parts_weight w s.geometry g p (chunks s g)) one two (listed p.free_list) (trees p all_kinds) (weigh_same (reserved_weight w) (limbo_weight w) p.reserve plain.reserve)
    where
      sums : (f x t r l c k n s o y z u v : ℕ) → n ≡ s + k → s ≡ f + x + t + r + l + c → o ≡ y + l → y ≡ z + u → x ≡ z → t ≡ u → r ≡ v → n ≡ f + o + v + c + k
      sums f x t r l c k n s o y z u v e1 e2 e3 e4 e5 e6 e7 = omega (arith, e1, e2, e3, e4, e5, e6, e7)

  -- and over those of its metadata alone
  pub metadata_is : (s : State) (g : ℕ) → weigh w (metadata_claims s g)
      ≡ weigh w (front_part s.geometry g) + weigh (limbo_weight w) (owners_in (s.group g)) + weigh (limbo_weight w) (s.group g).reserve + weigh w (chunk_part (chunks s g))
  metadata_is s g =
      let p : Group = s.group g in
      let list : List Owned = map (with_owner (number_of Ag)) p.free_list in
      let all : List Owned = flat_map (tree_pairs p) all_kinds in
      let one = weigh_both (limbo_weight w) (list ++ all) p.limbo in
      let two = weigh_both (limbo_weight w) list all in
      sums (weigh w (front_part s.geometry g)) (weigh w (map (claimed_by FreeList (number_of Ag)) p.free_list)) (weigh w (flat_map (tree_part p) all_kinds)) (weigh (reserved_weight w) p.reserve) (weigh (limbo_weight w) p.limbo) (weigh w (chunk_part (chunks s g)))
      (weigh w (metadata_claims s g)) (weigh (limbo_weight w) (owners_in p)) (weigh (limbo_weight w) (list ++ all)) (weigh (limbo_weight w) list) (weigh (limbo_weight w) all) (weigh (limbo_weight w) p.reserve)
      (ap (weigh w) (metadata_parts s g) ∙ parts_weight w s.geometry g p (chunks s g)) one two (listed p.free_list) (trees p all_kinds) (weigh_same (reserved_weight w) (limbo_weight w) p.reserve plain.reserve)
    where
      sums : (f x t r l c s o y z u v : ℕ) → s ≡ f + x + t + r + l + c → o ≡ y + l → y ≡ z + u → x ≡ z → t ≡ u → r ≡ v → s ≡ f + o + v + c
      sums f x t r l c s o y z u v e2 e3 e4 e5 e6 e7 = omega (arith, e2, e3, e4, e5, e6, e7)

-- ---- how often a block is claimed

pub owned_times : (b : ℕ) (os : List Owned) → weigh (limbo_weight (owned_by b)) os ≡ times b (blocks_in os)
owned_times b [] = refl
owned_times b (o ∷ os) = ap (λ (n : ℕ). (if o.block == b then 1 else 0) + n) (owned_times b os)

pub alone_times : (b : ℕ) (os : List Owned) → weigh (limbo_weight (alone_by b)) os ≡ times b (blocks_in os)
unfolding is_written_data
alone_times b [] = refl
alone_times b (o ∷ os) = ap (λ (n : ℕ). (if o.block == b then 1 else 0) + n) (alone_times b os)

pub alone_is_owned : (b : ℕ) (o : Owned) → limbo_weight (alone_by b) o ≡ limbo_weight (owned_by b) o
unfolding is_written_data
alone_is_owned b o = refl

-- whose a tuple is
pub own_weight : (s : State) (g : ℕ) (t : Tuple) → has (own s g) t ≡ nat_lt 0 (weigh (is_owner t) (claims s g))
unfolding own
own_weight s g t = has_set (map tuple_of (claims s g)) t ∙ has_weight (claims s g) t
