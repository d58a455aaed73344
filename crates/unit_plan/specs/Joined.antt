-- Pieces of claims joined in their places into the maximal runs of their owners.
use Rattle.std.specs.Prelude.{◌≡◌, ⊤, ◌==◌, ◌&&◌, ◌<◌, ◌≤◌, ◌+◌, ◌-◌, ◌^◌, ℕ, Bool, nat_le, nat_lt, List, [], ◌∷◌, All, drop, get_or, length, map, if◌then◌else◌}
use Rattle.std.specs.List.{list_any}
use Rattle.rmap_recs.specs.Rmap.{can_join}
use Rattle.rmap_recs.specs.Runs.{AreRuns, tuple_at}
use Rattle.rmap_recs.specs.Words.{key_word}
use Rattle.rmap_recs.specs.declared.records.Key.{Key}
use Rattle.rmap_recs.specs.declared.records.RmapRec.{RmapRec}
use Rattle.rmap_recs.specs.declared.tuples.Tuple.{Tuple}
use Rattle.run_edits.specs.Edits.{HasRoom, is_before}
use Rattle.run_edits.specs.Pieces.{AreTuplesOf, run_of}
use Rattle.sblock.specs.Lists.{IsAhead}
use Rattle.unit_plan.specs.declared.piece.Piece.{Piece}
use Rattle.unit_plan.specs.declared.runs.OwnerRuns.{OwnerRuns}
use Rattle.unit_plan.specs.Lost.{of_piece}

-- how many of these pass
abbrev pub how_many : {X : Type 0} → (X → Bool) → List X → ℕ
how_many p [] = 0
how_many p (x ∷ xs) = if p x then 1 + how_many p xs else how_many p xs

-- the piece claims this block for this owner at this offset
abbrev pub has_key : Key → RmapRec → Bool
has_key k r = (nat_le r.start k.start && nat_lt k.start (r.start + r.count)) && ((r.owner == k.owner) && (key_word (tuple_at r (k.start - r.start)).word == k.word))

-- what pieces are put in order by: start, owner and word, the unwritten flag aside
abbrev pub key_in_order : Piece → ℕ × ℕ × ℕ
key_in_order p = (p.run.start, p.owner, key_word p.word)

-- no block is claimed twice for one owner at one offset, and a block behind each piece has a number
pub record ClaimOnce (ps : List Piece) : Type 0 where
  pub once : (k : Key) → how_many (has_key k) (map of_piece ps) ≤ 1
  pub rooms : All HasRoom (map of_piece ps)

-- they are the maximal runs of all tuples of the pieces
abbrev pub AreRunsOf : List Piece → List RmapRec → Type 0
AreRunsOf ps recs = (ts : List Tuple) → AreTuplesOf ts (map of_piece ps) → AreRuns ts recs

-- the runs, in the order of reverse mappings
abbrev pub runs_of : OwnerRuns → List RmapRec
runs_of runs = map of_piece runs.pieces.items

-- ---- from the last piece to the first

-- with so many blocks
abbrev pub counted : ℕ → RmapRec → RmapRec
counted n r = record { start = r.start; count = n; owner = r.owner; word = r.word }

-- a block behind it has a number
abbrev pub Fits : RmapRec → Type 0
Fits r = r.start + r.count < 2 ^ 32

-- they rise in the order of reverse mappings, and a block behind each has a number
abbrev pub StandInRow : List RmapRec → Type 0
StandInRow [] = ⊤
StandInRow (r ∷ rs) = (Fits r × IsAhead is_before r rs) × StandInRow rs

-- a piece that another one has taken in
abbrev pub emptied : RmapRec → RmapRec
emptied r = counted 0 r

-- what a piece is once those from number i on are joined: nothing where one of them goes on to it, else its run
abbrev pub settled : List RmapRec → ℕ → RmapRec → RmapRec
settled recs i r = if list_any (λ p. can_join p r) (drop i recs) then emptied r else run_of recs r

-- those from number i on are joined, and the others are as they were
pub record AreJoinedFrom (recs : List RmapRec) (i : ℕ) (xs : List RmapRec) : Type 0 where
  pub long : length xs ≡ length recs
  pub front : (k : ℕ) (d : RmapRec) → k < i → get_or xs k d ≡ get_or recs k d
  pub back : (k : ℕ) (d : RmapRec) → i ≤ k → k < length recs → get_or xs k d ≡ settled recs i (get_or recs k d)
