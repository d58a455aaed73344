-- Limbo as runs, and as a state has it; the counters that a switch sets.
use Rattle.std.specs.Prelude.{◌≡◌, ◌&&◌, ◌||◌, not, ℕ, List, [], ◌∷◌}
use Rattle.fs_model.specs.declared.entry.Extent.{Extent}
use Rattle.fs_model.specs.declared.unit.Unit.{Unit as ScrubUnit}
use Rattle.fs_state.specs.State.{Owned, Group}
use Rattle.rmap_recs.specs.Owners.{number_of}
use Rattle.span_recs.specs.declared.span.SpanRec.{SpanRec}
use Rattle.block_reap.specs.Limbo.{covers, has, owner_of_unit}
use Rattle.block_reap.specs.declared.runs.LimboRun.{LimboRun}
use Rattle.root_switch.specs.Totals as totals
use Rattle.fs_change.specs.Changes.{last_count, leave_limbo}
use Rattle.fs_change.specs.Switch.{has_owned, join_limbo, owned_by, unit_owner}

-- the owner of a unit's blocks in limbo
abbrev pub OwnersAlike : Type 0
OwnersAlike = (unit : ScrubUnit) → number_of (owner_of_unit unit) ≡ unit_owner unit

-- the runs are those of these blocks with their owners
abbrev pub StandFor : List LimboRun → List Owned → Type 0
StandFor runs limbo = (b o : ℕ) → has runs b o ≡ has_owned limbo (owned_by o b)

abbrev pub extent_of : ℕ → LimboRun → Extent
extent_of g run = record { group = g; block = run.start; count = run.count }

-- what is left once a run left them is what a reaping leaves of the state's
abbrev pub LeavesAlike : Type 0
LeavesAlike =
    (p : Group) (g : ℕ) (runs left : List LimboRun) (run : LimboRun) → StandFor runs p.limbo
    → ((b o : ℕ) → has left b o ≡ (has runs b o && not (covers run b o))) → StandFor left (leave_limbo run.owner (extent_of g run) p).limbo

-- and what there is once a block joined them is what joined the state's
abbrev pub JoinsAlike : Type 0
JoinsAlike =
    (limbo : List Owned) (runs joined : List LimboRun) (block owner : ℕ) → StandFor runs limbo
    → ((b o : ℕ) → has joined b o ≡ (has runs b o || covers (record { start = block; count = 1; owner = owner }) b o)) → StandFor joined (join_limbo (owned_by owner block ∷ []) limbo)

-- the longest run of free space
abbrev pub LongestAlike : Type 0
LongestAlike = (recs : List SpanRec) → totals.last_count recs ≡ last_count recs
