-- What the derivations read.
use Rattle.std.proofs.Common.{◌≡◌, ℕ, ◌+◌, ◌*◌, Bool, List, [], ◌∷◌, ◌++◌, refl, ap, ◌∙◌, inl, inr}
use Rattle.std.specs.Prelude.{◌/◌, ◌%◌, ◌^◌, ◌||◌, ◌&&◌, nat_lt, map, filter, flat_map, sum_by, if◌then◌else◌}
use Rattle.byte_fields.specs.Below.{all_below}
use Rattle.derive_defs.specs.ByCount.{ordered_by_count}
use Rattle.derive_defs.specs.Free.{free_space}
use Rattle.derive_defs.specs.Shared.{shared_space}
use Rattle.fs_state.specs.Apart.{has_unit, is_listed, block_verifies, unit_verifies, is_chunk}
use Rattle.tree_defs.specs.Lists.{In}
use Rattle.fs_state.specs.State.{State, Owned}
use Rattle.geom.specs.Layout.{group_len_of, inode_at}
use Rattle.fs_model.specs.declared.claim.Claim.TheVariants.{Heads, List as FreeList, Tree, Reserve, Limbo, Chunk}
use Rattle.rmap_recs.specs.Owners.{number_of}
use Rattle.rmap_recs.specs.declared.owner.Owner.TheVariants.{Fs, Ag, Inodes}
use Rattle.ino_recs.specs.declared.chunk.InoRec.{InoRec}
use Rattle.rmap_recs.specs.Runs.{runs_of}
use Rattle.fs_state.specs.Chunks.{chunks, inodes_in, inodes}
use Rattle.fs_state.specs.Claims.{Claimed, claimed_by, log_claims, metadata_claims, fork_claims, claims, data_claims, attribute_claims, tree_claims}
use Rattle.fs_state.specs.Records.{all_kinds, tree_owner}
use Rattle.fs_state.specs.Derive.{ino_of, fino_of, bno_of, cnt_of, refc_of}
use Rattle.fs_state.specs.Laws.{SpaceFromMappings, SameListing, InodesFromListing, SameParts, OwnersFromParts}
use Rattle.fs_state.specs.Lists.{numbers}
use Rattle.fs_state.specs.Own.{set_of, tuple_of, own, rmap_of}

pub space_from_mappings : SpaceFromMappings
unfolding bno_of cnt_of refc_of
space_from_mappings a b g at same = record {
  bno = λ i. free_space (group_len_of (at i) g) (same i);
  cnt = λ i. ordered_by_count (free_space (group_len_of (at i) g) (same i));
  refc = λ i. shared_space (same i);
}

-- ---- inodes

-- a chunk's record, by which of its inodes are free
abbrev record_by : (ℕ → Bool) → ℕ → InoRec
record_by free u = record {
  startino = 64 * u;
  holemask = 0;
  count = 64;
  freecount = sum_by (λ n. if free n then 1 else 0) (numbers 0 64);
  free = sum_by (λ n. if free n then 2 ^ n else 0) (numbers 0 64);
}

module _ (a b : State) (g : ℕ) (same : SameListing a b g) where
  chunk_same : (u : ℕ) → is_chunk b g u ≡ is_chunk a g u
  unfolding is_chunk is_listed unit_verifies block_verifies
  chunk_same u = λ i. (has_unit (same.geometry i) g u && (same.ino u i || same.rmap u i))
      && all_below 8 (λ j. all_below 8 (λ s. same.verified (8 * u + j) s i))

  chunks_same : chunks b g ≡ chunks a g
  unfolding chunks
  chunks_same = λ i. filter (λ u. chunk_same u i) (numbers 0 (group_len_of (same.geometry i) g / 8))

  ino_same : ino_of b g ≡ ino_of a g
  unfolding ino_of
  ino_same = λ i. map (λ u. record_by (λ n. same.free (8 * u + n / 8) (n % 8) i) u) (chunks_same i)

pub inodes_from_listing : InodesFromListing
unfolding fino_of
inodes_from_listing a b g same = record {
  chunks = chunks_same a b g same;
  ino = ino_same a b g same;
  fino = ap (filter (λ (r : InoRec). nat_lt 0 r.freecount)) (ino_same a b g same);
}

-- ---- owners

flat_same : (f h : ℕ → List Claimed) (xs : List ℕ) → ((x : ℕ) → In x xs → f x ≡ h x) → flat_map f xs ≡ flat_map h xs
flat_same f h [] e = refl
flat_same f h (x ∷ xs) e =
    let first : f x ≡ h x = e x (inl refl) in
    let rest : flat_map f xs ≡ flat_map h xs = flat_same f h xs (λ y i. e y (inr i)) in
    λ i. first i ++ rest i

module _ (a b : State) (g : ℕ) (same : SameParts a b g) where
  inodes_same : inodes b ≡ inodes a
  unfolding inodes inodes_in
  inodes_same = λ i. flat_map (λ h. flat_map (λ u. map (λ n. inode_at (same.geometry i) h (8 * u + n / 8) (n % 8)) (numbers 0 64)) (same.chunks h i)) (numbers 0 (same.geometry i).agcount)

  metadata_same : metadata_claims b g ≡ metadata_claims a g
  unfolding metadata_claims
  metadata_same = λ i. claimed_by Heads (number_of Fs) 0 ∷ log_claims (same.geometry i).log g
      ++ map (claimed_by FreeList (number_of Ag)) (same.list i)
      ++ flat_map (λ k. map (claimed_by (Tree k) (tree_owner k)) (same.trees k i)) all_kinds
      ++ map (λ (o : Owned). claimed_by Reserve o.owner o.block) (same.reserve i)
      ++ map (λ (o : Owned). claimed_by Limbo o.owner o.block) (same.limbo i)
      ++ flat_map (λ u. map (claimed_by Chunk (number_of Inodes)) (numbers (8 * u) 8)) (same.chunks g i)

  over_inodes : (f h : ℕ → List Claimed) → ((x : ℕ) → In x (inodes a) → f x ≡ h x) → flat_map f (inodes b) ≡ flat_map h (inodes a)
  over_inodes f h e = ap (flat_map f) inodes_same ∙ flat_same f h (inodes a) e

  forks_same : fork_claims b g ≡ fork_claims a g
  unfolding fork_claims
  forks_same =
      let first = over_inodes (data_claims b g) (data_claims a g) same.data_forks in
      let second = over_inodes (attribute_claims b g) (attribute_claims a g) same.attribute_forks in
      let third = over_inodes (tree_claims b g) (tree_claims a g) same.fork_trees in
      λ i. first i ++ second i ++ third i

  claims_same : claims b g ≡ claims a g
  unfolding claims
  claims_same = λ i. metadata_same i ++ forks_same i

pub owners_from_parts : OwnersFromParts
unfolding own rmap_of
owners_from_parts a b g same = record {
  claims = claims_same a b g same;
  own = λ i. set_of (map tuple_of (claims_same a b g same i));
  rmap = λ i. runs_of (set_of (map tuple_of (claims_same a b g same i)));
}
