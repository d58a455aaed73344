-- The pieces of claims by a group's own metadata.
use Rattle.std.specs.Prelude.{ℕ, ◌*◌, ◌==◌, List, [], ◌∷◌, ◌++◌, map, flat_map, Option, Some, None, if◌then◌else◌}
use Rattle.fs_state.specs.Records.{all_kinds, tree_owner}
use Rattle.fs_model.specs.declared.claim.Claim.{Claim}
use Rattle.fs_model.specs.declared.claim.Claim.TheVariants.{Heads, Log, List as FreeList, Tree, Chunk}
use Rattle.geom.specs.declared.geometry.Run3.{Run3}
use Rattle.rmap_recs.specs.Owners.{number_of}
use Rattle.rmap_recs.specs.declared.owner.Owner.TheVariants.{Fs, Log as OfLog, Ag, Inodes}
use Rattle.sblock.specs.declared.kind.Kind.{Kind}
use Rattle.unit_plan.specs.declared.piece.Piece.{Piece}

-- n blocks from b on
abbrev pub piece_of : Claim → ℕ → ℕ → ℕ → Piece
piece_of c owner b n = record { claim = c; run = record { start = b; count = n }; owner = owner; word = 0 }

abbrev pub block_piece : Claim → ℕ → ℕ → Piece
block_piece c owner b = piece_of c owner b 1

-- the eight blocks of a chunk
abbrev pub chunk_piece : ℕ → Piece
chunk_piece u = piece_of Chunk (number_of Inodes) (8 * u) 8

abbrev pub log_pieces : Option Run3 → ℕ → List Piece
log_pieces None g = []
log_pieces (Some run) g = if run.group == g then piece_of Log (number_of OfLog) run.start run.count ∷ [] else []

abbrev pub tree_pieces : (Kind → List ℕ) → Kind → List Piece
tree_pieces blocks k = map (block_piece (Tree k) (tree_owner k)) (blocks k)

-- heads, log, free list, trees and chunks, in this order
unfoldable pub metadata_pieces : Option Run3 → ℕ → List ℕ → (Kind → List ℕ) → List ℕ → List Piece
metadata_pieces log g list blocks chunks =
    block_piece Heads (number_of Fs) 0 ∷ log_pieces log g
    ++ map (block_piece FreeList (number_of Ag)) list
    ++ flat_map (tree_pieces blocks) all_kinds
    ++ map chunk_piece chunks
