-- Which structures say that a block of a group is theirs ("Reverse Mapping B+tree"; Online Fsck Design,
-- "Cross-Referencing Space Metadata").
use Rattle.std.specs.Prelude.{ℕ, zero, suc, ◌+◌, ◌*◌, ◌^◌, ◌==◌, List, [], ◌∷◌, ◌++◌, map, flat_map, Option, Some, None, Result, Ok, Err, if◌then◌else◌}
use Rattle.dinode_core.specs.ForkTree.{TreeBlock}
use Rattle.dinode_core.specs.declared.mapping.Fork.{Fork}
use Rattle.dinode_core.specs.declared.mapping.Fork.TheVariants as forks
use Rattle.dinode_core.specs.declared.mapping.ForkFault.{ForkFault}
use Rattle.dinode_core.specs.declared.mapping.Mapping.{Mapping}
use Rattle.fs_model.specs.declared.claim.Claim.{Claim}
use Rattle.fs_model.specs.declared.claim.Claim.TheVariants.{Heads, Log, List as FreeList, Tree, Reserve, Limbo, Chunk, Data, Attr, ForkTree}
use Rattle.geom.specs.Layout.{Layout, split_of}
use Rattle.geom.specs.declared.geometry.Run3.{Run3}
use Rattle.rmap_recs.specs.Owners.{number_of}
use Rattle.rmap_recs.specs.declared.owner.Owner.TheVariants.{Fs, Log as OfLog, Ag, Inodes}
use Rattle.fs_state.specs.State.{State, ForkList, blocks_of}
use Rattle.fs_state.specs.Chunks.{chunks, inodes}
use Rattle.fs_state.specs.Records.{all_kinds, tree_owner}
use Rattle.fs_state.specs.Lists.{numbers, only_if}

-- a claim on a block, with the owner and the offset word that reverse mappings have for it
pub record Claimed : Type 0 where
  pub block : ℕ
  pub claim : Claim
  pub owner : ℕ
  pub word : ℕ

-- the flags of an offset word: attribute fork, block of a fork's btree, unwritten
abbrev pub attribute : ℕ
attribute = 2 ^ 63

abbrev pub fork_tree : ℕ
fork_tree = 2 ^ 62

abbrev pub unwritten : ℕ
unwritten = 2 ^ 61

-- ---- structures of the group

abbrev pub claimed_by : Claim → ℕ → ℕ → Claimed
claimed_by c owner b = record { block = b; claim = c; owner = owner; word = 0 }

abbrev pub log_claims : Option Run3 → ℕ → List Claimed
log_claims None g = []
log_claims (Some run) g = if run.group == g then map (claimed_by Log (number_of OfLog)) (numbers run.start run.count) else []

-- Which blocks of a group does its own metadata have? Heads, log, free list, trees, reserve, limbo and chunks, in
-- this order; a tree that can't be read has the blocks that it still claims.
unfoldable pub metadata_claims : State → ℕ → List Claimed
metadata_claims a g =
    let p = a.group g in
    claimed_by Heads (number_of Fs) 0 ∷ log_claims a.geometry.log g
    ++ map (claimed_by FreeList (number_of Ag)) p.free_list
    ++ flat_map (λ k. map (claimed_by (Tree k) (tree_owner k)) (blocks_of (p.tree k).reading)) all_kinds
    ++ map (λ o. claimed_by Reserve o.owner o.block) p.reserve
    ++ map (λ o. claimed_by Limbo o.owner o.block) p.limbo
    ++ flat_map (λ u. map (claimed_by Chunk (number_of Inodes)) (numbers (8 * u) 8)) (chunks a g)

-- ---- forks

abbrev pub no_fork : ForkList
no_fork = record { mappings = []; blocks = [] }

-- a fork that can't be read claims nothing
abbrev pub read_fork : Result ForkList ForkFault → ForkList
read_fork (Ok list) = list
read_fork (Err fault) = no_fork

-- n blocks from b on, their words rising with them
abbrev pub mapped_blocks : Claim → ℕ → ℕ → ℕ → ℕ → List Claimed
mapped_blocks c ino b word zero = []
mapped_blocks c ino b word (suc n) =
    record { block = b; claim = c; owner = ino; word = word } ∷ mapped_blocks c ino (b + 1) (word + 1) n

abbrev pub word_of : ℕ → Mapping → ℕ
word_of flag m = m.offset + flag + (if m.unwritten then unwritten else 0)

-- a mapping's blocks, where it lies in the group
abbrev pub blocks_at : ℕ → Claim → ℕ → ℕ → Mapping → Option (ℕ × ℕ) → List Claimed
blocks_at g c ino flag m None = []
blocks_at g c ino flag m (Some p) = if p.0 == g then mapped_blocks c ino p.1 (word_of flag m) m.count else []

abbrev pub mapping_claims : Layout → ℕ → Claim → ℕ → ℕ → List Mapping → List Claimed
mapping_claims at g c ino flag ms = flat_map (λ m. blocks_at g c ino flag m (split_of at m.block)) ms

-- a block of a fork's own btree, where it lies in the group
abbrev pub tree_block_at : ℕ → ℕ → ℕ → Option (ℕ × ℕ) → List Claimed
tree_block_at g ino flag None = []
tree_block_at g ino flag (Some p) =
    only_if (p.0 == g) (record { block = p.1; claim = ForkTree ino; owner = ino; word = fork_tree + flag })

abbrev pub fork_tree_claims : Layout → ℕ → ℕ → ℕ → List TreeBlock → List Claimed
fork_tree_claims at g ino flag bs = flat_map (λ b. tree_block_at g ino flag (split_of at b.block)) bs

abbrev pub fork_of : State → ℕ → Fork → ForkList
fork_of a ino f = read_fork (a.fork ino f)

abbrev pub data_claims : State → ℕ → ℕ → List Claimed
data_claims a g ino = mapping_claims a.geometry g (Data ino) ino 0 (fork_of a ino forks.Data).mappings

abbrev pub attribute_claims : State → ℕ → ℕ → List Claimed
attribute_claims a g ino = mapping_claims a.geometry g (Attr ino) ino attribute (fork_of a ino forks.Attr).mappings

-- the blocks of both forks' btrees
abbrev pub tree_claims : State → ℕ → ℕ → List Claimed
tree_claims a g ino =
    fork_tree_claims a.geometry g ino 0 (fork_of a ino forks.Data).blocks
    ++ fork_tree_claims a.geometry g ino attribute (fork_of a ino forks.Attr).blocks

-- Which blocks of a group do forks have, and which of them their btrees? Data first, then attributes, then blocks of
-- btrees, each by inode. Only inodes in chunks are asked.
unfoldable pub fork_claims : State → ℕ → List Claimed
fork_claims a g =
    flat_map (data_claims a g) (inodes a) ++ flat_map (attribute_claims a g) (inodes a) ++ flat_map (tree_claims a g) (inodes a)

-- all claims on the blocks of a group, in the order in which two on one block are shown
unfoldable pub claims : State → ℕ → List Claimed
claims a g = metadata_claims a g ++ fork_claims a g
