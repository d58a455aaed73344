-- What the check of a unit adds to the journal.
use Rattle.std.specs.Prelude.{◌≡◌, ℕ, List, Option, Some, None}
use Rattle.std.specs.Global.{Vec}
use Rattle.fs_state.specs.Contradiction.{evidence}
use Rattle.fs_state.specs.Faults.{faults}
use Rattle.fs_state.specs.Session.{Place, first_unready}
use Rattle.fs_model.specs.declared.claim.Evidence.{Evidence}
use Rattle.fs_model.specs.declared.entry.Entry.{Entry}
use Rattle.fs_model.specs.declared.fault.Fault.{Fault}
use Rattle.fs_model.specs.declared.unit.Unit.{Unit as ScrubUnit}
use Rattle.fs_model.specs.declared.unit.Unit.TheVariants as units
use Rattle.fs_model.specs.declared.verdict.Reason.TheVariants.{Contradiction}
use Rattle.fs_model.specs.declared.verdict.Verdict.TheVariants.{GaveUp, Skipped}
use Rattle.fs_state.specs.Kinds.{Image}
use Rattle.fs_state.specs.State.{State}
use Rattle.geom.specs.Layout.{Layout}
use Rattle.inode_pass.specs.Units.{opened_state}
use Rattle.quiet_check.specs.declared.judge.Judged.{Judged}
use Rattle.quiet_check.specs.declared.judge.Judged.TheVariants as judged
use Rattle.space_check.specs.Groups.{unit_entries as fault_entries, verdict_entries}

-- the evidence for which a unit can't be judged, where there is some, or else its faults
abbrev pub entries_by : ℕ → ScrubUnit → Option Evidence → List Fault → List Entry
entries_by g unit (Some found) wanted = verdict_entries g unit (GaveUp (Contradiction found))
entries_by g unit None wanted = fault_entries g unit wanted

-- What does the check of a unit add, that isn't skipped?
unfoldable pub judged_entries : State → ℕ → ScrubUnit → List Entry
judged_entries a g unit = entries_by g unit (evidence a g unit) (faults a g unit)

-- where it is skipped for this unit, or isn't skipped
abbrev pub entries_after : State → ℕ → ScrubUnit → Option Place → List Entry
entries_after a g unit (Some place) = verdict_entries g unit (Skipped place.0 place.1)
entries_after a g unit None = judged_entries a g unit

-- What does the check of a unit add to a journal with these entries, the last of them first? It is skipped for the
-- first unit that it needs and that didn't pass.
unfoldable pub unit_entries : State → List Entry → ℕ → ScrubUnit → List Entry
unit_entries a past g unit = entries_after a g unit (first_unready a.geometry.agcount past g unit)

-- what the code has found, as entries
abbrev pub entries_of : ℕ → ScrubUnit → Judged → List Entry
entries_of g unit (judged.Faults found) = fault_entries g unit found.items
entries_of g unit (judged.GaveUp found) = verdict_entries g unit (GaveUp (Contradiction found))

-- they are what the check of a group's inodes adds, whatever the journal has so far
abbrev pub AreInodeEntries : Layout → Image → ℕ → Vec Entry → Type 0
AreInodeEntries at image g found = (past : List Entry) → found.items ≡ unit_entries (opened_state at image) past g units.Inode
