-- How a piece of a comparison leaves the unit ("Metadata Scrubbing").
use Rattle.std.specs.Prelude.{◌≡◌, ◌⊎◌, ℕ, ◌+◌, ◌≤◌, ◌==◌, Bool, true, false, if◌then◌else◌}
use Rattle.std.specs.Global.{Vec}
use Rattle.std.specs.Vec.{vec_capacity, vec_len}
use Rattle.core_calls.specs.declared.answers.Phase.{Phase}
use Rattle.core_calls.specs.declared.answers.Phase.TheVariants as phases
use Rattle.core_units.specs.declared.compare.Place.{Place}
use Rattle.core_units.specs.declared.compare.Place.TheVariants.{First, Second, Counters, End}
use Rattle.fs_state.specs.declared.plan.Plan.{Plan}
use Rattle.fs_state.specs.declared.plan.Plan.TheVariants as plans
use Rattle.fs_model.specs.declared.entry.Entry.{Entry}
use Rattle.core_check.specs.declared.tell.Outcome.{Outcome}
use Rattle.core_check.specs.declared.tell.Outcome.TheVariants.{More, Good, Faulty, Rebuild}

-- Before the end the comparison goes on. At the end a unit without a fault is good, unless it is to be rebuilt anyway;
-- one with faults is rebuilt, unless it is only checked.
abbrev pub end_of : Plan → Place → ℕ → Outcome
end_of plan (First from) found = More
end_of plan (Second from) found = More
end_of plan Counters found = More
end_of plans.Check End found = if found == 0 then Good else Faulty found
end_of plans.Repair End found = if found == 0 then Good else Rebuild
end_of plans.Rebuild End found = Rebuild

-- how many verdicts it is
abbrev pub verdicts : Outcome → ℕ
verdicts More = 0
verdicts Good = 1
verdicts (Faulty found) = 1
verdicts Rebuild = 0

-- a journal has room for so many entries more
abbrev pub IsSpareBy : ℕ → Vec Entry → Type 0
IsSpareBy many journal = vec_len journal + many ≤ vec_capacity journal

-- how far a unit is after a piece, by whether it was the last
abbrev pub IsCompared : Bool → Phase → Type 0
IsCompared false phase = phase ≡ phases.Gathered
IsCompared true phase = (phase ≡ phases.Judged) ⊎ (phase ≡ phases.Building)
