-- Pieces of reverse mappings, joined into the maximal runs of all their tuples.
use Rattle.std.specs.Prelude.{◌≡◌, ◌==◌, ◌&&◌, ◌||◌, nat_le, true, ◌+◌, ◌-◌, ◌^◌, ℕ, zero, suc, Bool, not, List, [], ◌∷◌, All, Contains, map, filter, find}
use Rattle.std.specs.List.{list_any, list_all}
use Rattle.std.specs.Option.{option_map_or}
use Rattle.sblock.specs.Lists.{Rises}
use Rattle.rmap_recs.specs.Rmap.{can_join}
use Rattle.rmap_recs.specs.Runs.{tuple_at}
use Rattle.rmap_recs.specs.declared.records.RmapRec.{RmapRec}
use Rattle.rmap_recs.specs.declared.tuples.Tuple.{Tuple}
use Rattle.run_edits.specs.EditLaws.{IsOf}
use Rattle.run_edits.specs.Edits.{HasRoom, is_before, joined}

-- they rise in the order of reverse mappings, their numbers fit, and no two of them have a common tuple
pub record ArePieces (pieces : List RmapRec) : Type 0 where
  pub rising : Rises is_before pieces
  pub rooms : All HasRoom pieces
  pub apart : (p q : RmapRec) → Contains pieces p → Contains pieces q → (t : Tuple) → IsOf p t → IsOf q t → p ≡ q

-- the tuples are those of the pieces, and no others
pub record AreTuplesOf (ts : List Tuple) (pieces : List RmapRec) : Type 0 where
  pub has : (p : RmapRec) → Contains pieces p → (t : Tuple) → IsOf p t → Contains ts t
  pub only : (t : Tuple) → Contains ts t → (p : RmapRec) × Contains pieces p × IsOf p t

-- the first n tuples of a piece, and then others
unfoldable pub with_tuples : RmapRec → ℕ → List Tuple → List Tuple
with_tuples p zero ts = ts
with_tuples p (suc n) ts = tuple_at p n ∷ with_tuples p n ts

-- the tuples of all pieces
unfoldable pub tuples_of : List RmapRec → List Tuple
tuples_of [] = []
tuples_of (p ∷ ps) = with_tuples p p.count (tuples_of ps)

-- another piece ends where this one begins, and can join it
abbrev pub is_followed : List RmapRec → RmapRec → Bool
is_followed pieces q = list_any (λ p. can_join p q) pieces

-- no piece goes on from this one
abbrev pub is_last : List RmapRec → RmapRec → Bool
is_last pieces p = not (list_any (can_join p) pieces)

-- a run with the pieces that go on from it, one after the other, at most n
unfoldable pub chain : ℕ → List RmapRec → RmapRec → RmapRec
chain zero pieces r = r
chain (suc n) pieces r = option_map_or (λ q. chain n pieces (joined r q)) (find (can_join r) pieces) r

-- a piece with those that go on from it
abbrev pub run_of : List RmapRec → RmapRec → RmapRec
run_of pieces p = chain (2 ^ 32 - (p.start + p.count)) pieces p

-- each piece that goes on from no other, with those that go on from it
unfoldable pub joined_pieces : List RmapRec → List RmapRec
joined_pieces pieces = map (run_of pieces) (filter (λ q. not (is_followed pieces q)) pieces)

-- there are such tuples
abbrev pub PiecesHaveTuples : Type 0
PiecesHaveTuples = (pieces : List RmapRec) → AreTuplesOf (tuples_of pieces) pieces

-- ---- a test that is enough

-- the records have different owners or no common block
abbrev pub is_apart : RmapRec → RmapRec → Bool
is_apart p q = not (p.owner == q.owner) || nat_le (p.start + p.count) q.start || nat_le (q.start + q.count) p.start

-- each two of them do
abbrev pub are_apart : List RmapRec → Bool
are_apart [] = true
are_apart (p ∷ ps) = list_all (is_apart p) ps && are_apart ps

abbrev pub PiecesByTests : Type 0
PiecesByTests = (pieces : List RmapRec) → Rises is_before pieces → All HasRoom pieces → are_apart pieces ≡ true → ArePieces pieces
