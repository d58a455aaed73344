-- Whose forks are spoken of.
use Rattle.std.proofs.Common.{◌≡◌, ℕ, true, Option, Some, None, refl, ◌∙◌}
use Rattle.std.specs.Prelude.{◌/◌}
use Rattle.geom.specs.Layout.{Layout, split_of}
use Rattle.dinode_core.specs.declared.mapping.Fork.{Fork}
use Rattle.fs_state.specs.Apart.{ino_lists, rmap_lists, is_listed, is_chunk, in_chunk, is_inode}
use Rattle.fs_state.specs.Frame.{ForksOfInodes}
use Rattle.fs_state.specs.Kinds.{Image}
use Rattle.fs_state.specs.Read.{state_of, without_forks, fork_in_chunk, fork_of_ino}
use Rattle.fs_state.specs.State.{Kept}

-- forks say nothing of which inodes there are
same_place : (at : Layout) (image : Image) (kept : Kept) (place : Option (ℕ × ℕ)) → in_chunk (without_forks at image kept) place ≡ in_chunk (state_of at image kept) place
unfolding is_chunk is_listed ino_lists rmap_lists
same_place at image kept None = refl
same_place at image kept (Some p) = refl

same_inode : (at : Layout) (image : Image) (kept : Kept) (ino : ℕ) → is_inode (without_forks at image kept) ino ≡ is_inode (state_of at image kept) ino
unfolding is_inode
same_inode at image kept ino = same_place at image kept (split_of at (ino / 8))

-- an inode has the forks that its core leads to
pub spoken : (at : Layout) (image : Image) (kept : Kept) (ino : ℕ) (f : Fork) → is_inode (state_of at image kept) ino ≡ true → fork_in_chunk at image kept ino f ≡ fork_of_ino at image kept ino f
unfolding fork_in_chunk
spoken at image kept ino f h = rw (same_inode at image kept ino ∙ h) refl

pub unspoken : ForksOfInodes
unfolding fork_in_chunk
unspoken at image kept ino f h = rw (same_inode at image kept ino ∙ h) refl
