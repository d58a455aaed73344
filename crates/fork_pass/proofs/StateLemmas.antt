-- The forks of an inode in a chunk are those that its bytes lead to.
use Rattle.std.proofs.Common.{◌≡◌, ℕ, ◌+◌, ◌*◌, ◌/◌, ◌%◌, ◌<◌, true, List, Option, Some, None, refl, ap, sym, subst, ◌∙◌, arith}
use Rattle.std.proofs.lemmas.Bool.{and_parts, false≢true}
use Rattle.byte_fields.proofs.BelowLemmas.{each_below}
use Rattle.dinode_core.specs.Core.{core_fault, core_of}
use Rattle.dinode_core.specs.declared.inode.CoreFault.{CoreFault}
use Rattle.dinode_core.specs.declared.mapping.Fork.{Fork}
use Rattle.fs_state.specs.Apart.{block_verifies, ino_lists, is_chunk, is_inode, is_listed, rmap_lists, unit_verifies, verifies}
use Rattle.fs_state.specs.Inodes.{core_in, fork_by, slot_in, whole_or}
use Rattle.fs_state.specs.Kinds.{Image}
use Rattle.fs_state.specs.Read.{core_of_ino, fork_in_chunk, fork_of_ino, inode_bytes, opened, without_forks}
use Rattle.fs_state.specs.State.{CoreState}
use Rattle.geom.specs.Apart.{Splits}
use Rattle.geom.specs.Layout.{Layout, device_block_of, fs_block_of, group_len_of, inode_at}
use Rattle.inode_pass.specs.Units.{opened_state}
use Rattle.fork_pass.specs.Read.{slot_fork}

-- a state without its forks has the same chunks
same_chunks : (at : Layout) (image : Image) (g u : ℕ) → is_chunk (without_forks at image (opened at image)) g u ≡ is_chunk (opened_state at image) g u
unfolding is_chunk is_listed ino_lists rmap_lists
same_chunks at image g u = refl

whole_core : (at : Layout) (ino : ℕ) (bytes : List ℕ) → verifies (Some (core_in at ino bytes)) ≡ true → core_fault bytes ino at.uuid ≡ None
unfolding core_in
whole_core at ino bytes h = by_fault (core_fault bytes ino at.uuid) h
  where
    by_fault : (o : Option CoreFault) → verifies (Some (whole_or o (core_of bytes))) ≡ true → o ≡ None
    by_fault None h = refl
    by_fault (Some fault) h = absurd (false≢true h)

by_core : (at : Layout) (image : Image) (ino : ℕ) (f : Fork) (core : Option CoreState) (bytes : Option (List ℕ)) (own : List ℕ) → core ≡ Some (core_in at ino own) → bytes ≡ Some own → core_fault own ino at.uuid ≡ None → fork_by at image ino f core bytes ≡ slot_fork at image own f
unfolding core_in
by_core at image ino f core bytes own c b none = rw (c, b, none) refl

module _ (at : Layout) (image : Image) (splits : Splits at) (g b s : ℕ) (gl : g < at.agcount) (bl : b < group_len_of at g) (sl : s < 8) where
  abbrev ino_of : ℕ
  ino_of = inode_at at g b s

  abbrev own_bytes : List ℕ
  own_bytes = slot_in (image (device_block_of at g b)) s

  in_block : inode_at at g b s / 8 ≡ fs_block_of at g b
  in_block = omega (arith, sl)

  in_slot : inode_at at g b s % 8 ≡ s
  in_slot = omega (arith, sl)

  core_there : core_of_ino at image (opened at image) (inode_at at g b s) ≡ Some (core_in at (inode_at at g b s) (slot_in (image (device_block_of at g b)) s))
  unfolding core_of_ino opened
  core_there = rw (in_block, splits g b gl bl, in_slot) refl

  bytes_there : inode_bytes at image (inode_at at g b s) ≡ Some (slot_in (image (device_block_of at g b)) s)
  bytes_there = rw (in_block, splits g b gl bl, in_slot) refl

  inode_there : is_inode (without_forks at image (opened at image)) (inode_at at g b s) ≡ is_chunk (opened_state at image) g (b / 8)
  unfolding is_inode
  inode_there = rw (in_block, splits g b gl bl) (same_chunks at image g (b / 8))

  -- the core of an inode in a chunk verifies
  pub verified : is_chunk (opened_state at image) g (b / 8) ≡ true → core_fault (slot_in (image (device_block_of at g b)) s) (inode_at at g b s) at.uuid ≡ None
  unfolding is_chunk unit_verifies block_verifies
  verified chunk =
      let a = opened_state at image in
      let all = (and_parts (is_listed a g (b / 8)) (unit_verifies at a.core g (b / 8)) chunk).1 in
      let place : 8 * (b / 8) + b % 8 ≡ b = omega arith in
      let block : block_verifies at a.core g (8 * (b / 8) + b % 8) ≡ true = each_below (λ j. block_verifies at a.core g (8 * (b / 8) + j)) 8 (b % 8) all (omega arith) in
      let here : block_verifies at a.core g b ≡ true = subst (λ (k : ℕ). block_verifies at a.core g k ≡ true) place block in
      let own : verifies (a.core (inode_at at g b s)) ≡ true = each_below (λ t. verifies (a.core (inode_at at g b t))) 8 s here sl in
      whole_core at (inode_at at g b s) (slot_in (image (device_block_of at g b)) s) (ap verifies (sym core_there) ∙ own)

  -- and its forks are those that its bytes lead to
  pub fork_there : is_chunk (opened_state at image) g (b / 8) ≡ true → (f : Fork) → (opened_state at image).fork (inode_at at g b s) f ≡ slot_fork at image (slot_in (image (device_block_of at g b)) s) f
  unfolding fork_in_chunk fork_of_ino
  fork_there chunk f =
      rw (inode_there, chunk) (by_core at image (inode_at at g b s) f (core_of_ino at image (opened at image) (inode_at at g b s)) (inode_bytes at image (inode_at at g b s)) (slot_in (image (device_block_of at g b)) s) core_there bytes_there (verified chunk))
