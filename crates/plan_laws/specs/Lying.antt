-- Pieces of claims as pieces of reverse mappings.
use Rattle.std.specs.Prelude.{◌≡◌, ◌≤◌, ◌&&◌, not, List, None, false, map, All, Contains}
use Rattle.std.specs.List.Sorted.{IsPermutation}
use Rattle.rmap_recs.specs.declared.records.Key.{Key}
use Rattle.rmap_recs.specs.declared.tuples.Tuple.{Tuple}
use Rattle.run_edits.specs.EditLaws.{IsOf}
use Rattle.run_edits.specs.Edits.{HasRoom, is_before}
use Rattle.run_edits.specs.Pieces.{ArePieces}
use Rattle.sblock.specs.Lists.{Rises}
use Rattle.unit_plan.specs.Joined.{ClaimOnce, has_key, how_many}
use Rattle.unit_plan.specs.Lost.{of_piece}
use Rattle.unit_plan.specs.Pieces.{is_hard}
use Rattle.unit_plan.specs.Sets.{IsFirstOverlap}
use Rattle.unit_plan.specs.declared.piece.Among.TheVariants.{All as AllClaims}
use Rattle.unit_plan.specs.declared.piece.Piece.{Piece}

-- of written file data: no two pieces map a block for one owner at one offset
abbrev pub AreMappedOnce : List Piece → Type 0
AreMappedOnce ps = (p q : Piece) → Contains ps p → Contains ps q → is_hard p ≡ false → is_hard q ≡ false → (t : Tuple) → IsOf (of_piece p) t → IsOf (of_piece q) t → of_piece p ≡ of_piece q

-- no overlap, and then in the order of reverse mappings
abbrev pub LieApart : Type 0
LieApart = (ps qs : List Piece) → IsPermutation ps qs → IsFirstOverlap AllClaims ps None → AreMappedOnce qs → Rises is_before (map of_piece qs) → All HasRoom (map of_piece qs) → ArePieces (map of_piece qs)

-- of written file data: no two pieces claim a block for one owner at one offset
abbrev pub AreWrittenOnce : List Piece → Type 0
AreWrittenOnce ps = (k : Key) → how_many (λ p. not (is_hard p) && has_key k (of_piece p)) ps ≤ 1

-- no overlap, and numbers for the blocks behind
abbrev pub AreClaimedOnce : Type 0
AreClaimedOnce = (ps : List Piece) → IsFirstOverlap AllClaims ps None → AreWrittenOnce ps → All HasRoom (map of_piece ps) → ClaimOnce ps
