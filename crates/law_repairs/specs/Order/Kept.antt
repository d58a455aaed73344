-- What is in order of an image, and of what a machine keeps in memory beside it.
use Rattle.std.specs.Prelude.{◌≡◌, ℕ, ◌<◌, ◌==◌, true, not, List, slice_index, None, Some}
use Rattle.std.specs.List.{list_all}
use Rattle.std.specs.Option.{ForSome}
use Rattle.ag_headers.specs.Agfl.{agfl_fault}
use Rattle.fs_model.specs.declared.unit.Trust.TheVariants.{Sick}
use Rattle.fs_state.specs.Kinds.{Image}
use Rattle.fs_state.specs.State.{Bad, Kept, Owned, blocks_in, pairs_of}
use Rattle.geom.specs.Layout.{Layout, device_block_of, group_len_of}
use Rattle.geom.specs.Numbers.{HoldsLog}
use Rattle.rmap_recs.specs.Owners.{is_inode, number_of}
use Rattle.rmap_recs.specs.declared.owner.Owner.TheVariants.{Inodes}
use Rattle.sblock.specs.declared.kind.Kind.{Kind}
use Rattle.tree_defs.specs.Lists.{AllDiffer, In}

-- Does the log lie where a superblock may have it? Behind the heads of one group, and inside it, where the image has one.
abbrev pub LogLiesInside : Layout → Type 0
LogLiesInside at = ForSome at.log (λ run. HoldsLog at.agblocks at.agcount at.dblocks run)

-- Are a group's heads bytes? Each number in its block 0 is below 256.
abbrev pub HeadsAreBytes : Layout → Image → ℕ → Type 0
HeadsAreBytes at image g = (i : ℕ) → slice_index (image (device_block_of at g 0)) i < 256

-- Is the free list accepted? No test of the AGFL fails.
abbrev pub ListIsAccepted : Layout → Image → ℕ → Type 0
ListIsAccepted at image g = agfl_fault at g (image (device_block_of at g 0)) ≡ None

-- these blocks lie in a group of so many
abbrev pub LieBelow : ℕ → List ℕ → Type 0
LieBelow len blocks = (p : ℕ) → In p blocks → p < len

-- none of these owners is an inode
abbrev pub AreNoInodes : List Owned → Type 0
AreNoInodes os = list_all (λ o. not (is_inode o.owner)) os ≡ true

-- none of these owners is that of chunks
abbrev pub AreNoChunks : List Owned → Type 0
AreNoChunks os = list_all (λ o. not (o.owner == number_of Inodes)) os ≡ true

-- Is what is kept in memory of a group in order? A tree that is kept as bad is sick, and the blocks that it claims lie in the
-- group, each once. So do those of limbo, and those of the reserve lie there; none of either has an inode for its owner.
pub record KeptInOrder (at : Layout) (kept : Kept) (g : ℕ) : Type 0 where
  pub sick : (k : Kind) (bad : Bad) → kept.bad g k ≡ Some bad → kept.trust g k ≡ Sick
  pub claims_inside : (k : Kind) (bad : Bad) → kept.bad g k ≡ Some bad → LieBelow (group_len_of at g) bad.claims
  pub claims_once : (k : Kind) (bad : Bad) → kept.bad g k ≡ Some bad → AllDiffer bad.claims
  pub reserve_inside : LieBelow (group_len_of at g) (blocks_in (kept.reserve g))
  pub reserve_plain : AreNoInodes (kept.reserve g)
  pub limbo_inside : LieBelow (group_len_of at g) (blocks_in (pairs_of (kept.limbo g)))
  pub limbo_plain : AreNoInodes (pairs_of (kept.limbo g))
  pub limbo_once : AllDiffer (blocks_in (pairs_of (kept.limbo g)))
