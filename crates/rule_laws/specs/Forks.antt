-- A fork's list as a rule changes it, and as a step of a writer has it.
use Rattle.std.specs.Prelude.{◌≡◌, ℕ, ◌+◌, nat_le, nat_lt, true, not, ◌&&◌, List, find, Some}
use Rattle.std.specs.List.{list_any}
use Rattle.dinode_core.specs.declared.mapping.Mapping.{Mapping}
use Rattle.sblock.specs.Lists.{Rises}
use Rattle.fork_change.specs.Lists.{added, taken, maps, overlaps, piece_in}
use Rattle.fs_change.specs.Records.{add_mapping, take_piece, is_piece, is_unmapped, is_unwritten_at}

-- the mappings rise by their offsets
abbrev pub AreInOrder : List Mapping → Type 0
AreInOrder ms = Rises (λ p q. nat_lt p.offset q.offset) ms

-- a mapping added to a list in order, with its neighbours where they meet
abbrev pub AddsAlike : Type 0
AddsAlike = (agblklog : ℕ) (m : Mapping) (ms : List Mapping) → AreInOrder ms → added agblklog m ms ≡ add_mapping agblklog m ms

-- and each begins where the one before it ends, or behind that
abbrev pub AreApart : List Mapping → Type 0
AreApart ms = Rises (λ p q. nat_lt p.offset q.offset && nat_le (p.offset + p.count) q.offset) ms

-- a piece that is taken out and added again, as a conversion does it
abbrev pub ConvertsAlike : Type 0
ConvertsAlike = (agblklog offset n : ℕ) (m : Mapping) (ms : List Mapping) → AreApart ms → added agblklog m (taken offset n ms) ≡ add_mapping agblklog m (take_piece offset n ms)

-- a piece taken out
abbrev pub TakesAlike : Type 0
TakesAlike = (offset n : ℕ) (ms : List Mapping) → taken offset n ms ≡ take_piece offset n ms

-- an offset of a mapping is occupied where a step would not find all of them free
abbrev pub OccupiedAlike : Type 0
OccupiedAlike = (m : Mapping) (ms : List Mapping) → list_any (overlaps m) ms ≡ not (is_unmapped m.offset m.count ms)

-- the piece that is answered is one that a step may name, with its flag
pub record IsPieceOf (offset n : ℕ) (ms : List Mapping) (m : Mapping) : Type 0 where
  pub piece : is_piece offset (piece_in offset n m).block (piece_in offset n m).count ms ≡ true
  pub flag : is_unwritten_at offset ms ≡ (piece_in offset n m).unwritten

abbrev pub PieceAlike : Type 0
PieceAlike = (offset n : ℕ) (ms : List Mapping) (m : Mapping) → find (maps offset) ms ≡ Some m → IsPieceOf offset n ms m
