-- The pieces that stand for the claims on the blocks of a group of a state.
use Rattle.std.specs.Prelude.{◌≡◌, ⊤, ℕ, ◌+◌, ◌≤◌, ◌==◌, List, [], ◌∷◌, ◌++◌, All, map, flat_map, Option, Some, None, Ok}
use Rattle.std.specs.List.Sorted.{IsPermutation}
use Rattle.dinode_core.specs.Inline.{first_bad}
use Rattle.dinode_core.specs.declared.mapping.Fork.{Fork}
use Rattle.dinode_core.specs.declared.mapping.Fork.TheVariants as forks
use Rattle.dinode_core.specs.declared.mapping.Mapping.{Mapping}
use Rattle.fs_state.specs.Chunks.{inodes}
use Rattle.fs_state.specs.Claims.{Claimed, attribute, fork_of, fork_tree, metadata_claims, word_of}
use Rattle.fs_state.specs.Lists.{numbers, only_if}
use Rattle.fs_model.specs.declared.claim.Claim.{Claim}
use Rattle.fs_model.specs.declared.claim.Claim.TheVariants.{Data, Attr, ForkTree}
use Rattle.fs_state.specs.State.{State, ForkList}
use Rattle.geom.specs.Layout.{Layout, group_len_of, split_of}
use Rattle.rmap_recs.specs.Runs.{tuple_at}
use Rattle.run_edits.specs.Edits.{HasRoom}
use Rattle.unit_plan.specs.Lost.{of_piece}
use Rattle.unit_plan.specs.Order.{inode, place}
use Rattle.unit_plan.specs.Sets.{LieBelow}
use Rattle.unit_plan.specs.declared.piece.Piece.{Piece}

-- ---- forks

-- a mapping's blocks, where it lies in the group: one piece
abbrev pub piece_at : ℕ → Claim → ℕ → ℕ → Mapping → Option (ℕ × ℕ) → List Piece
piece_at g c ino flag m None = []
piece_at g c ino flag m (Some p) = only_if (p.0 == g) (record { claim = c; run = record { start = p.1; count = m.count }; owner = ino; word = word_of flag m })

abbrev pub mapping_pieces : Layout → ℕ → Claim → ℕ → ℕ → List Mapping → List Piece
mapping_pieces at g c ino flag ms = flat_map (λ m. piece_at g c ino flag m (split_of at m.block)) ms

-- a block of a fork's own btree, where it lies in the group
abbrev pub tree_piece_at : ℕ → ℕ → ℕ → Option (ℕ × ℕ) → List Piece
tree_piece_at g ino flag None = []
tree_piece_at g ino flag (Some p) = only_if (p.0 == g) (record { claim = ForkTree ino; run = record { start = p.1; count = 1 }; owner = ino; word = fork_tree + flag })

abbrev pub tree_pieces : Layout → ℕ → ℕ → ℕ → List ℕ → List Piece
tree_pieces at g ino flag bs = flat_map (λ b. tree_piece_at g ino flag (split_of at b)) bs

-- those of an inode: of its data fork, of its attribute fork, and of the btrees of both
abbrev pub inode_pieces : Layout → ℕ → ℕ → ForkList → ForkList → List Piece
inode_pieces at g ino first other =
    mapping_pieces at g (Data ino) ino 0 first.mappings
    ++ (mapping_pieces at g (Attr ino) ino attribute other.mappings
    ++ (tree_pieces at g ino 0 (map (λ b. b.block) first.blocks) ++ tree_pieces at g ino attribute (map (λ b. b.block) other.blocks)))

-- those of these inodes of a state; a fork that can't be read has none
abbrev pub pieces_of_inode : State → ℕ → ℕ → List Piece
pieces_of_inode a g ino = inode_pieces a.geometry g ino (fork_of a ino forks.Data) (fork_of a ino forks.Attr)

abbrev pub fork_pieces : State → ℕ → List ℕ → List Piece
fork_pieces a g inos = flat_map (pieces_of_inode a g) inos

-- ---- all claims

-- block i of a piece, as it is claimed
abbrev pub claimed_at : Piece → ℕ → Claimed
claimed_at p i = record { block = p.run.start + i; claim = p.claim; owner = p.owner; word = (tuple_at (of_piece p) i).word }

-- all blocks of pieces, one piece after the other
abbrev pub claims_of : List Piece → List Claimed
claims_of ps = flat_map (λ p. map (claimed_at p) (numbers 0 p.run.count)) ps

-- in the order of the claims from this place on, and none of a fork
abbrev pub FromPlace : ℕ → List Piece → Type 0
FromPlace n [] = ⊤
FromPlace n (p ∷ ps) = (n ≤ place p.claim) × (place p.claim ≤ 11) × (inode p.claim ≡ 0) × FromPlace (place p.claim) ps

-- a group's own metadata by pieces, each with a block and with numbers behind it
pub record AreOwnPieces (a : State) (g : ℕ) (own : List Piece) : Type 0 where
  pub metadata : claims_of own ≡ metadata_claims a g
  pub order : FromPlace 0 own
  pub low : LieBelow (group_len_of a.geometry g) own
  pub rooms : All HasRoom (map of_piece own)

-- the pieces are those of a group's metadata and of all forks, in whatever order
pub record AreClaimsOf (a : State) (g : ℕ) (ps : List Piece) : Type 0 where
  pub own : List Piece
  pub metadata : AreOwnPieces a g own
  pub all : IsPermutation ps (own ++ fork_pieces a g (inodes a))

-- the mappings of each fork that can be read rise, don't overlap and are in range
abbrev pub AreGoodForks : State → Type 0
AreGoodForks a = (ino : ℕ) (f : Fork) (list : ForkList) → a.fork ino f ≡ Ok list → first_bad a.geometry f list.mappings ≡ None
