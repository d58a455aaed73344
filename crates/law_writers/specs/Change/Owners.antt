-- Whose blocks the forks of an image are: of an owner that is no inode none, and of an inode those of its own forks.
use Rattle.std.specs.Prelude.{◌≡◌, ℕ, ◌&&◌, Bool, List, ◌++◌, map}
use Rattle.geom.specs.Apart.{HasFitting}
use Rattle.rmap_recs.specs.Runs.{has}
use Rattle.rmap_recs.specs.declared.tuples.Tuple.{Tuple}
use Rattle.fs_state.specs.Apart.{is_inode}
use Rattle.fs_state.specs.State.{State}
use Rattle.fs_state.specs.Claims.{Claimed, data_claims, attribute_claims, tree_claims}
use Rattle.fs_state.specs.Own.{tuple_of}
use Rattle.fs_change.specs.Laws.{fork_owners}

-- Which blocks of a group does an inode have? Those of its data, of its attributes and of its forks' btrees.
abbrev pub inode_claims : State → ℕ → ℕ → List Claimed
inode_claims a g ino = data_claims a g ino ++ attribute_claims a g ino ++ tree_claims a g ino

abbrev pub has_claim_of : State → ℕ → ℕ → Tuple → Bool
has_claim_of a g ino t = has (map tuple_of (inode_claims a g ino)) t

abbrev pub OwnersByInode : Type 0
OwnersByInode = (a : State) (g : ℕ) (t : Tuple) → HasFitting a.geometry → has (fork_owners a g) t ≡ (is_inode a t.owner && has_claim_of a g t.owner t)
