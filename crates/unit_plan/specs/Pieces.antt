-- What pieces of claims stand for: a list of claimed blocks, in the claims' order.
use Rattle.std.specs.Prelude.{ℕ, Bool, true, false, not, ◌&&◌, List, [], ◌∷◌, map, flat_map, if◌then◌else◌}
use Rattle.std.specs.List.{filter}
use Rattle.fs_model.specs.declared.claim.Claim.{Claim}
use Rattle.fs_model.specs.declared.claim.Claim.TheVariants.{Heads, Log, List as FreeList, Tree, Reserve, Limbo, Chunk, Data, Attr, ForkTree, Staging}
use Rattle.run_sets.specs.Runs.{is_within}
use Rattle.rmap_recs.specs.Words.{is_unwritten}
use Rattle.fs_state.specs.Claims.{Claimed, unwritten}
use Rattle.fs_state.specs.Contradiction.{is_data}
use Rattle.fs_state.specs.Lists.{numbers}
use Rattle.unit_plan.specs.declared.piece.Among.{Among}
use Rattle.unit_plan.specs.declared.piece.Among.TheVariants.{All as AllClaims, Metadata}
use Rattle.unit_plan.specs.declared.piece.Piece.{Piece}
use Rattle.unit_plan.specs.Order.{comes_before}

-- a claim of the group's own metadata
abbrev pub is_metadata : Claim → Bool
is_metadata Heads = true
is_metadata Log = true
is_metadata FreeList = true
is_metadata (Tree kind) = true
is_metadata Reserve = true
is_metadata Limbo = true
is_metadata Chunk = true
is_metadata (Data ino) = false
is_metadata (Attr ino) = false
is_metadata (ForkTree ino) = false
is_metadata Staging = true

abbrev pub is_looked_at : Among → Claim → Bool
is_looked_at AllClaims c = true
is_looked_at Metadata c = is_metadata c

-- it isn't written file data
abbrev pub is_hard : Piece → Bool
is_hard p = not (is_data p.claim && not (is_unwritten p.word))

-- the piece is looked at and has the block
abbrev pub has_block : Among → ℕ → Piece → Bool
has_block among b p = is_looked_at among p.claim && is_within b p.run

-- a block of a piece, as it is claimed; who its owner is no overlap asks
abbrev pub claimed : Piece → ℕ → Claimed
claimed p b = record { block = b; claim = p.claim; owner = 0; word = if is_unwritten p.word then unwritten else 0 }

-- a piece put in front of the first that doesn't come before it
abbrev pub put_piece : Piece → List Piece → List Piece
put_piece p [] = p ∷ []
put_piece p (q ∷ qs) = if comes_before q.claim p.claim then q ∷ put_piece p qs else p ∷ q ∷ qs

-- pieces in the claims' order
abbrev pub in_order : List Piece → List Piece
in_order [] = []
in_order (p ∷ ps) = put_piece p (in_order ps)

abbrev pub blocks_of : List Piece → List Claimed
blocks_of ps = flat_map (λ p. map (claimed p) (numbers p.run.start p.run.count)) ps

-- all blocks of the pieces that are looked at, in the claims' order
unfoldable pub claimed_blocks : Among → List Piece → List Claimed
claimed_blocks among ps = blocks_of (in_order (filter (λ p. is_looked_at among p.claim) ps))
