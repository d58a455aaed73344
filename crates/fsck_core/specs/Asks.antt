-- What may be asked of a core with so many groups, and the phase behind an event.
use Rattle.std.specs.Prelude.{◌<◌, ⊤, ℕ, List, Option, Some, None}
use Rattle.std.specs.List.{slice_get}
use Rattle.core_calls.specs.declared.answers.Phase.{Phase}
use Rattle.core_calls.specs.declared.answers.Phase.TheVariants as phases
use Rattle.core_calls.specs.declared.asks.Ask.{Ask}
use Rattle.core_calls.specs.declared.asks.Ask.TheVariants as asks
use Rattle.core_parts.specs.Phases.{phase_at}
use Rattle.core_parts.specs.declared.units.UnitState.{UnitState}

-- the group that a scrubber's event is asked for, or `refill`
abbrev pub group_asked : Ask → Option ℕ
group_asked (asks.Refill g) = Some g
group_asked (asks.Start g u plan turns) = Some g
group_asked (asks.Advance g) = Some g
group_asked (asks.ScanPiece g) = Some g
group_asked (asks.Close g) = Some g
group_asked (asks.GatherPiece g) = Some g
group_asked (asks.ComparePiece g) = Some g
group_asked (asks.ReservePiece g) = Some g
group_asked (asks.StagePiece g) = Some g
group_asked (asks.Switch g) = Some g
group_asked (asks.ReapPiece g) = Some g
group_asked (asks.Reopen g) = Some g
group_asked ask = None

abbrev pub IsBelow : ℕ → Option ℕ → Type 0
IsBelow n None = ⊤
IsBelow n (Some g) = g < n

-- the group is one of so many
abbrev pub MayAsk : ℕ → Ask → Type 0
MayAsk n ask = IsBelow n (group_asked ask)

-- the phase of a group by its place in the list; idle where there is none
abbrev pub phase_in_place : Option (Option UnitState) → Phase
phase_in_place None = phases.Idle
phase_in_place (Some u) = phase_at u

abbrev pub phase_of_group : List (Option UnitState) → Option ℕ → Phase
phase_of_group us None = phases.Idle
phase_of_group us (Some g) = phase_in_place (slice_get us g)
