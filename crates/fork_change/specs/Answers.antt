-- What each change of a fork's list answers ("Data Extents").
use Rattle.std.specs.Prelude.{ℕ, Bool, true, false, nat_lt, List, length, Option, Some, None, Result, Ok, Err, find, if◌then◌else◌}
use Rattle.std.specs.List.{list_any}
use Rattle.dinode_core.specs.declared.mapping.Mapping.{Mapping}
use Rattle.fork_change.specs.declared.change.ForkChange.{ForkChange}
use Rattle.fork_change.specs.declared.change.ForkChange.TheVariants.{Hole, Occupied, Full}
use Rattle.fork_change.specs.Lists.{added, taken, overlaps, maps, piece_in}

-- the list, where it fits the room
abbrev pub list_of : ℕ → List Mapping → Result (List Mapping) ForkChange
list_of room new = if nat_lt room (length new) then Err (Full (length new)) else Ok new

abbrev pub add_answer : ℕ → Mapping → ℕ → List Mapping → Result (List Mapping) ForkChange
add_answer l m room ms = if list_any (overlaps m) ms then Err Occupied else list_of room (added l m ms)

-- a piece, with the list
abbrev pub with_piece : Mapping → Result (List Mapping) ForkChange → Result (Mapping × List Mapping) ForkChange
with_piece piece (Ok ms) = Ok (piece, ms)
with_piece piece (Err e) = Err e

abbrev pub take_from : ℕ → ℕ → ℕ → List Mapping → Option Mapping → Result (Mapping × List Mapping) ForkChange
take_from offset n room ms None = Err Hole
take_from offset n room ms (Some m) = let piece = piece_in offset n m in with_piece piece (list_of room (taken offset piece.count ms))

abbrev pub take_answer : ℕ → ℕ → ℕ → List Mapping → Result (Mapping × List Mapping) ForkChange
take_answer offset n room ms = take_from offset n room ms (find (maps offset) ms)

-- a written piece changes nothing
abbrev pub convert_piece : ℕ → ℕ → ℕ → List Mapping → Mapping → Bool → Result (Mapping × List Mapping) ForkChange
convert_piece l offset room ms piece false = Ok (piece, ms)
convert_piece l offset room ms piece true = with_piece piece (list_of room (added l (record piece { unwritten = false }) (taken offset piece.count ms)))

abbrev pub convert_from : ℕ → ℕ → ℕ → ℕ → List Mapping → Option Mapping → Result (Mapping × List Mapping) ForkChange
convert_from l offset n room ms None = Err Hole
convert_from l offset n room ms (Some m) = let piece = piece_in offset n m in convert_piece l offset room ms piece piece.unwritten

abbrev pub convert_answer : ℕ → ℕ → ℕ → ℕ → List Mapping → Result (Mapping × List Mapping) ForkChange
convert_answer l offset n room ms = convert_from l offset n room ms (find (maps offset) ms)
