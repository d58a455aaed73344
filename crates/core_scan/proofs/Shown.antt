-- The forks of allocated inodes are those of the image, and a free one has none.
use Rattle.std.proofs.Common.{◌≡◌, ℕ, Bool, true, false, not, cond, List, [], Option, Some, None, Ok, refl, sym, ap, ◌∙◌}
use Rattle.std.specs.Prelude.{◌/◌, ◌%◌}
use Rattle.std.proofs.lemmas.Bool.{false≢true, and_parts}
use Rattle.dinode_core.specs.Core.{core_fault, core_of}
use Rattle.dinode_core.specs.ForkTree.{Image}
use Rattle.dinode_core.specs.Frame.{fork_in}
use Rattle.dinode_core.specs.declared.inode.CoreFault.{CoreFault}
use Rattle.dinode_core.specs.declared.mapping.Fork.{Fork}
use Rattle.fork_read.specs.Pieces.{bytes_in, inode_bytes as own_bytes}
use Rattle.geom.specs.Layout.{Layout, split_of}
use Rattle.fs_state.specs.Apart.{in_chunk, ino_lists, is_chunk, is_inode, is_listed, rmap_lists, verifies}
use Rattle.fs_state.specs.Inodes.{bytes_at, core_in, fork_by, no_fork, whole_or}
use Rattle.fs_state.specs.Read.{core_of_ino, core_or, fork_in_chunk, fork_of_ino, inode_bytes, reserved, state_of, without_forks}
use Rattle.fs_state.specs.State.{Broken, CoreState, Kept, State, Whole}
use Rattle.fs_state.specs.Claims.{read_fork}
use Rattle.fs_state.specs.Derive.{is_free}
use Rattle.geom.specs.Apart.{HasFitting}
use Rattle.law_writers.proofs.Inode.Cores.{chunk_verifies}
use Rattle.core_scan.proofs.Masks.{place_of}
use Rattle.core_scan.specs.Equation.{FreeHaveNone, IsOf}
use Rattle.core_scan.specs.Seen.{is_allocated}

no_place : (a : State) (ino : ℕ) → split_of a.geometry (ino / 8) ≡ None → is_inode a ino ≡ true → ⊥
unfolding is_inode
no_place a ino e h = false≢true (ap (in_chunk a) (sym e) ∙ h)

module _ (at : Layout) (image : Image) (kept : Kept) where
  abbrev a : State
  a = state_of at image kept

  same_inodes : (ino : ℕ) → is_inode (without_forks at image kept) ino ≡ is_inode (state_of at image kept) ino
  unfolding is_inode is_chunk is_listed ino_lists rmap_lists
  same_inodes ino = refl

  -- a core that verifies is that of the bytes
  by_core : (ino : ℕ) (f : Fork) (p : ℕ × ℕ) (r : Bool) → split_of at (ino / 8) ≡ Some p → reserved kept (split_of at (ino / 8)) ≡ r → verifies (core_of_ino at image kept ino) ≡ true → is_free (core_of_ino at image kept ino) ≡ false
      → fork_by at image ino f (core_of_ino at image kept ino) (inode_bytes at image ino) ≡ fork_in at image (core_of (own_bytes at image ino)) f
  unfolding core_of_ino core_in
  by_core ino f p true there res v used = absurd (false≢true (ap (λ b. verifies (core_or at ino b (inode_bytes at image ino))) (sym res) ∙ v))
  by_core ino f p false there res v used =
      let own : List ℕ = own_bytes at image ino in
      let bytes : inode_bytes at image ino ≡ Some own = ap (bytes_at at image ino) there ∙ ap Some (sym (ap (λ (o : Option (ℕ × ℕ)). bytes_in at image (ino % 8) o) there)) in
      let core : core_or at ino (reserved kept (split_of at (ino / 8))) (inode_bytes at image ino) ≡ Some (whole_or (core_fault own ino at.uuid) (core_of own)) = ap (λ b. core_or at ino b (inode_bytes at image ino)) res ∙ ap (core_or at ino false) bytes in
      by_fault (core_fault own ino at.uuid) own core bytes (ap verifies (sym core) ∙ v) (ap is_free (sym core) ∙ used)
    where
      by_fault : (o : Option CoreFault) (own : List ℕ) → core_or at ino (reserved kept (split_of at (ino / 8))) (inode_bytes at image ino) ≡ Some (whole_or o (core_of own)) → inode_bytes at image ino ≡ Some own → verifies (Some (whole_or o (core_of own))) ≡ true → is_free (Some (whole_or o (core_of own))) ≡ false
          → fork_by at image ino f (core_or at ino (reserved kept (split_of at (ino / 8))) (inode_bytes at image ino)) (inode_bytes at image ino) ≡ fork_in at image (core_of own) f
      by_fault None own c b w u = (λ i. fork_by at image ino f (c i) (b i)) ∙ ap (λ t. cond t (Ok no_fork) (fork_in at image (core_of own) f)) u
      by_fault (Some fault) own c b w u = absurd (false≢true w)

  shown : (ino : ℕ) → HasFitting at → is_allocated (state_of at image kept) ino ≡ true → (f : Fork) → (state_of at image kept).fork ino f ≡ fork_in at image (core_of (own_bytes at image ino)) f
  unfolding fork_in_chunk fork_of_ino
  shown ino fit there f =
      let parts = and_parts (is_inode (state_of at image kept) ino) (not (is_free (core_of_ino at image kept ino))) there in
      let p = place_of (state_of at image kept) ino parts.0 in
      let v : verifies (core_of_ino at image kept ino) ≡ true = ap (λ n. verifies (core_of_ino at image kept n)) (sym p.number) ∙ chunk_verifies (state_of at image kept) p.group p.unit p.nth p.chunk p.few in
      ap (λ b. cond b (fork_by at image ino f (core_of_ino at image kept ino) (inode_bytes at image ino)) (Ok no_fork)) (same_inodes ino ∙ parts.0)
      ∙ by_place (split_of at (ino / 8)) refl v (used (is_free (core_of_ino at image kept ino)) parts.1) parts.0
    where
      used : (b : Bool) → not b ≡ true → b ≡ false
      used true h = absurd (false≢true h)
      used false h = refl

      by_place : (o : Option (ℕ × ℕ)) → split_of at (ino / 8) ≡ o → verifies (core_of_ino at image kept ino) ≡ true → is_free (core_of_ino at image kept ino) ≡ false → is_inode (state_of at image kept) ino ≡ true
          → fork_by at image ino f (core_of_ino at image kept ino) (inode_bytes at image ino) ≡ fork_in at image (core_of (own_bytes at image ino)) f
      by_place None e v u h = absurd (no_place (state_of at image kept) ino e h)
      by_place (Some q) e v u h = by_core ino f q (reserved kept (split_of at (ino / 8))) e refl v u

pub state_is_of : (at : Layout) (image : Image) (kept : Kept) → HasFitting at → IsOf (state_of at image kept) image
state_is_of at image kept fit ino there f = shown at image kept ino fit there f

free_none : (at : Layout) (image : Image) (ino : ℕ) (f : Fork) (core : Option CoreState) (bytes : Option (List ℕ)) → is_free core ≡ true → fork_by at image ino f core bytes ≡ Ok no_fork
free_none at image ino f None bytes h = absurd (false≢true h)
free_none at image ino f (Some (Broken fault)) bytes h = absurd (false≢true h)
free_none at image ino f (Some (Whole inode)) None h = refl
free_none at image ino f (Some (Whole inode)) (Some bytes) h = ap (λ t. cond t (Ok no_fork) (fork_in at image (core_of bytes) f)) h

pub free_have_none : FreeHaveNone
unfolding fork_in_chunk fork_of_ino
free_have_none at image kept ino h f = by (is_inode (without_forks at image kept) ino)
  where
    by : (b : Bool) → read_fork (cond b (fork_by at image ino f (core_of_ino at image kept ino) (inode_bytes at image ino)) (Ok no_fork)) ≡ record { mappings = []; blocks = [] }
    by true = ap read_fork (free_none at image ino f (core_of_ino at image kept ino) (inode_bytes at image ino) h)
    by false = refl
