-- The pieces of all claims on the blocks of a group, as they are put together from what was gathered.
use Rattle.std.specs.Prelude.{ℕ, Bool, true, false, List, [], ◌∷◌, ◌++◌, map, Option, if◌then◌else◌}
use Rattle.block_reap.specs.declared.runs.LimboRun.{LimboRun}
use Rattle.fs_state.specs.Records.{tree_owner}
use Rattle.fs_model.specs.declared.claim.Claim.{Claim}
use Rattle.fs_model.specs.declared.claim.Claim.TheVariants.{Heads, List as FreeList, Limbo, Data, Attr, ForkTree}
use Rattle.geom.specs.declared.geometry.Run3.{Run3}
use Rattle.group_trees.specs.Metadata.{block_piece, chunk_piece, log_pieces, tree_pieces}
use Rattle.rmap_recs.specs.Owners.{number_of}
use Rattle.rmap_recs.specs.Words.{is_attribute, is_fork_tree}
use Rattle.rmap_recs.specs.declared.owner.Owner.TheVariants.{Fs, Ag}
use Rattle.rmap_recs.specs.declared.records.RmapRec.{RmapRec}
use Rattle.sblock.specs.declared.kind.Kind.{Kind}
use Rattle.sblock.specs.declared.kind.Kind.TheVariants.{Bno, Cnt, Rmap, Refc, Ino, Fino}
use Rattle.unit_plan.specs.declared.piece.Piece.{Piece}

-- a run that waits to be freed
abbrev pub limbo_piece : LimboRun → Piece
limbo_piece r = record { claim = Limbo; run = record { start = r.start; count = r.count }; owner = r.owner; word = 0 }

-- which claim a run of a fork's owner is
abbrev pub fork_claim : RmapRec → Claim
fork_claim r = if is_fork_tree r.word then ForkTree r.owner else (if is_attribute r.word then Attr r.owner else Data r.owner)

abbrev pub owner_piece : RmapRec → Piece
owner_piece r = record { claim = fork_claim r; run = record { start = r.start; count = r.count }; owner = r.owner; word = r.word }

-- the blocks of the old reverse mappings, unless they are left out
abbrev pub rmap_pieces : Bool → (Kind → List ℕ) → List Piece
rmap_pieces true blocks = tree_pieces blocks Rmap
rmap_pieces false blocks = []

-- heads, log, free list, trees, limbo and chunks, in this order
unfoldable pub group_pieces : Option Run3 → ℕ → List ℕ → Bool → (Kind → List ℕ) → List LimboRun → List ℕ → List Piece
group_pieces log g list with_rmap blocks limbo chunks =
    block_piece Heads (number_of Fs) 0 ∷ log_pieces log g
    ++ map (block_piece FreeList (number_of Ag)) list
    ++ tree_pieces blocks Bno
    ++ tree_pieces blocks Cnt
    ++ rmap_pieces with_rmap blocks
    ++ tree_pieces blocks Refc
    ++ tree_pieces blocks Ino
    ++ tree_pieces blocks Fino
    ++ map limbo_piece limbo
    ++ map chunk_piece chunks
