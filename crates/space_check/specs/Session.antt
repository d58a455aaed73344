-- The events of units in a journal alone, whether the device tells its content or not. How many blocks
-- are read isn't told then, and stands as 0.
use Rattle.std.specs.Prelude.{ℕ, List}
use Rattle.fs_model.specs.declared.entry.Entry.{Entry}
use Rattle.fs_model.specs.declared.fault.Fault.{Fault}
use Rattle.fs_model.specs.declared.unit.Unit.{Unit}
use Rattle.space_check.specs.Events.{Event, Moment, moment}
use Rattle.space_check.specs.Groups.{event, unit_entries}

-- a unit that is judged, with these faults
abbrev pub unit_event : ℕ → Unit → List Fault → Event
unit_event g unit faults = event 0 (unit_entries g unit faults)

-- a check that has come to this journal
abbrev pub come_to : List Entry → Moment
come_to journal = moment journal 0
