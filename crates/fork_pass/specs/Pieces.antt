-- The claims of forks as pieces, group by group.
use Rattle.std.specs.Prelude.{ℕ, ◌+◌, ◌==◌, List, [], ◌++◌, map, flat_map, Option, Some, None}
use Rattle.dinode_core.specs.declared.mapping.Fork.{Fork}
use Rattle.dinode_core.specs.declared.mapping.Fork.TheVariants as forks
use Rattle.dinode_core.specs.declared.mapping.Mapping.{Mapping}
use Rattle.fs_state.specs.Chunks.{inodes}
use Rattle.fs_state.specs.Claims.{attribute, fork_of, fork_tree, word_of}
use Rattle.fs_state.specs.Lists.{only_if}
use Rattle.fs_model.specs.declared.claim.Claim.{Claim}
use Rattle.fs_model.specs.declared.claim.Claim.TheVariants.{Data, Attr, ForkTree}
use Rattle.fs_state.specs.State.{State, ForkList}
use Rattle.geom.specs.Layout.{Layout, split_of}
use Rattle.unit_plan.specs.declared.piece.Piece.{Piece}

-- the claim on what a fork maps
abbrev pub claim_of : Fork → ℕ → Claim
claim_of forks.Data ino = Data ino
claim_of forks.Attr ino = Attr ino

-- the flag of the offset words of a fork
abbrev pub flag_of : Fork → ℕ
flag_of forks.Data = 0
flag_of forks.Attr = attribute

-- the blocks of a mapping, from this block of its group on
abbrev pub mapping_piece : Fork → ℕ → Mapping → ℕ → Piece
mapping_piece f ino m b = record { claim = claim_of f ino; run = record { start = b; count = m.count }; owner = ino; word = word_of (flag_of f) m }

-- a block of a fork's btree
abbrev pub block_piece : Fork → ℕ → ℕ → Piece
block_piece f ino b = record { claim = ForkTree ino; run = record { start = b; count = 1 }; owner = ino; word = fork_tree + flag_of f }

-- the piece that begins at this place, where that lies in the group
abbrev pub piece_where : ℕ → (ℕ → Piece) → Option (ℕ × ℕ) → List Piece
piece_where g piece None = []
piece_where g piece (Some p) = only_if (p.0 == g) (piece p.1)

-- these mappings of a fork, where they lie in the group
abbrev pub mapping_pieces : Layout → Fork → ℕ → List Mapping → ℕ → List Piece
mapping_pieces at f ino ms g = flat_map (λ m. piece_where g (mapping_piece f ino m) (split_of at m.block)) ms

-- these blocks of a fork's btree, where they lie in the group
abbrev pub block_pieces : Layout → Fork → ℕ → List ℕ → ℕ → List Piece
block_pieces at f ino bs g = flat_map (λ b. piece_where g (block_piece f ino) (split_of at b)) bs

abbrev pub mapped_in : Layout → ℕ → (Fork → ForkList) → ℕ → Fork → List Piece
mapped_in at ino lists g f = mapping_pieces at f ino (lists f).mappings g

abbrev pub blocks_in : Layout → ℕ → (Fork → ForkList) → ℕ → Fork → List Piece
blocks_in at ino lists g f = block_pieces at f ino (map (λ b. b.block) (lists f).blocks) g

-- what an inode with these forks claims in the group: file data, attributes, and the blocks of both btrees
abbrev pub pieces_for : Layout → ℕ → (Fork → ForkList) → ℕ → List Piece
pieces_for at ino lists g =
    mapped_in at ino lists g forks.Data ++ (mapped_in at ino lists g forks.Attr ++ (blocks_in at ino lists g forks.Data ++ blocks_in at ino lists g forks.Attr))

-- the same of an inode of a state
abbrev pub inode_pieces : State → ℕ → ℕ → List Piece
inode_pieces a g ino = pieces_for a.geometry ino (fork_of a ino) g

-- What do the forks of all inodes claim in a group? Inode by inode, rising.
unfoldable pub fork_pieces : State → ℕ → List Piece
fork_pieces a g = flat_map (inode_pieces a g) (inodes a)
