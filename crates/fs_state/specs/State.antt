-- The plain state: what an image, with what is kept in memory beside it, says of the metadata of each
-- group and of each inode ("Allocation Groups", "Inode Allocation", "On-disk Inode").
use Rattle.std.specs.Prelude.{ℕ, Bool, true, false, List, [], ◌∷◌, Option, Result, nat_lt, if◌then◌else◌}
use Rattle.geom.specs.Layout.{Layout}
use Rattle.sblock.specs.declared.kind.Kind.{Kind}
use Rattle.sblock.specs.declared.block.BlockFault.{BlockFault}
use Rattle.fs_model.specs.declared.unit.Trust.{Trust}
use Rattle.fs_model.specs.declared.fault.Counter.{Counter}
use Rattle.rmap_recs.specs.Rmap.{is_first}
use Rattle.dinode_core.specs.declared.inode.CoreFault.{CoreFault}
use Rattle.dinode_core.specs.declared.mapping.Fork.{Fork}
use Rattle.dinode_core.specs.declared.mapping.ForkFault.{ForkFault}
pub use Rattle.dinode_core.specs.Frame.{ForkList}
use Rattle.fs_state.specs.Kinds.{RecOf}
use Rattle.fs_state.specs.declared.intent.Intent.{Intent}

-- What is read of a btree? Its records in key order and the blocks of all its levels, or its first fault,
-- with the block where it is, and the blocks that it still claims.
pub data Reading (R : Type 0) : Type 0 where
  Readable : (recs : List R) (blocks : List ℕ) → Reading R
  Unreadable : (block : ℕ) (fault : BlockFault) (claims : List ℕ) → Reading R

-- a btree of a group, and what is known of it
pub record Index (R : Type 0) : Type 0 where
  pub reading : Reading R
  pub trust : Trust

-- a block of a group with the owner that reverse mappings give it
pub record Owned : Type 0 where
  pub block : ℕ
  pub owner : ℕ

-- by block, and those of one block by owner
abbrev pub comes_first : Owned → Owned → Bool
comes_first o p = is_first o.block p.block (nat_lt o.owner p.owner)

-- a pair in its place, unless it is there
abbrev pub put_pair : Owned → List Owned → List Owned
put_pair o [] = o ∷ []
put_pair o (p ∷ ps) = if comes_first o p then o ∷ p ∷ ps else if comes_first p o then p ∷ put_pair o ps else p ∷ ps

-- a set of pairs, as the one list of them that rises
abbrev pub pairs_of : List Owned → List Owned
pairs_of [] = []
pairs_of (o ∷ os) = put_pair o (pairs_of os)

-- What does a group hold? Its free list in ring order, the counters of its heads, its six btrees, the blocks that
-- a rebuild has taken and not used, in the order in which they were taken, and the set of those that wait to be freed.
pub record Group : Type 0 where
  pub free_list : List ℕ
  pub counters : Counter → ℕ
  pub tree : (k : Kind) → Index (RecOf k)
  pub reserve : List Owned
  pub limbo : List Owned

-- what a core says that verifies
pub record Inode : Type 0 where
  pub mode : ℕ
  pub uid : ℕ
  pub reflink : Bool

pub data CoreState : Type 0 where
  Broken : (fault : CoreFault) → CoreState
  Whole : (inode : Inode) → CoreState

-- What does an image stand for? Groups by their numbers, cores and forks by inode numbers, pending intents by
-- chain numbers.
pub record State : Type 0 where
  pub geometry : Layout
  pub group : ℕ → Group
  -- None: no place, or in a reserve
  pub core : ℕ → Option CoreState
  -- of inodes in chunks, with a whole core of a mode other than 0; other forks are empty
  pub fork : ℕ → Fork → Result ForkList ForkFault
  -- what each chain still owes, the next first
  pub chains : ℕ → List Intent

-- the records of a tree that can be read; one that can't has none
abbrev pub recs_of : {R : Type 0} → Reading R → List R
recs_of (Readable recs blocks) = recs
recs_of (Unreadable block fault claims) = []

-- the blocks of the tree, or those that it still claims
abbrev pub blocks_of : {R : Type 0} → Reading R → List ℕ
blocks_of (Readable recs blocks) = blocks
blocks_of (Unreadable block fault claims) = claims

abbrev pub is_readable : {R : Type 0} → Reading R → Bool
is_readable (Readable recs blocks) = true
is_readable (Unreadable block fault claims) = false

abbrev pub blocks_in : List Owned → List ℕ
blocks_in [] = []
blocks_in (o ∷ os) = o.block ∷ blocks_in os

-- the fault and the claims of a tree that couldn't be read at opening: they stand until its root is switched,
-- whatever is written later
pub record Bad : Type 0 where
  pub block : ℕ
  pub fault : BlockFault
  pub claims : List ℕ

-- what is kept in memory beside the image
pub record Kept : Type 0 where
  pub trust : ℕ → Kind → Trust
  pub bad : ℕ → Kind → Option Bad
  pub reserve : ℕ → List Owned
  pub limbo : ℕ → List Owned
  pub chains : ℕ → List Intent
