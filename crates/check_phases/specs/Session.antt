-- What a check adds to an empty journal, unit by unit in the order of a session.
use Rattle.std.specs.Prelude.{◌≡◌, ℕ, ◌+◌, Bool, true, false, List, [], ◌∷◌, ◌++◌, Option, Some, None, if◌then◌else◌}
use Rattle.fs_state.specs.Session.{Place, Session, is_cut, is_refused, unit_order}
use Rattle.fs_state.specs.declared.plan.Plan.TheVariants.{Check}
use Rattle.fs_model.specs.declared.entry.Entry.{Entry}
use Rattle.fs_state.specs.State.{State}
use Rattle.space_check.specs.Events.{Event, entries_of}
use Rattle.space_check.specs.Groups.{event}
use Rattle.check_phases.specs.Checks.{AreReadable}
use Rattle.quiet_check.specs.Entries.{unit_entries}
use Rattle.check_phases.specs.Phases.{Inodes, Mappings, Space, lacks_inodes, lacks_mappings, lacks_nothing, phase_events, phase_passes}

-- a journal whose last entry comes first, with these entries more
abbrev pub with_entries : List Entry → List Entry → List Entry
with_entries past [] = past
with_entries past (e ∷ es) = with_entries (e ∷ past) es

-- the units at these places one after the other, each by the entries before it
abbrev pub session_events : State → List Entry → List Place → List Event
session_events a past [] = []
session_events a past (p ∷ ps) = event 0 (unit_entries a past p.0 p.1) ∷ session_events a (with_entries past (unit_entries a past p.0 p.1)) ps

-- the units of all groups
unfoldable pub check_events : State → List Event
check_events a = session_events a [] (unit_order a.geometry.agcount)

-- ---- by phases

-- the first of these units, numbered from g on, that didn't pass
abbrev pub first_fallen_from : ℕ → List Bool → Option ℕ
first_fallen_from g [] = None
first_fallen_from g (passed ∷ more) = if passed then first_fallen_from (g + 1) more else Some g

module _ (a : State) where
  -- which inodes passed, and which reverse mappings
  abbrev pub inodes_passed : List Bool
  inodes_passed = phase_passes a Inodes lacks_nothing 0 a.geometry.agcount

  abbrev pub inode_fallen : Option ℕ
  inode_fallen = first_fallen_from 0 inodes_passed

  abbrev pub mappings_passed : List Bool
  mappings_passed = phase_passes a Mappings (lacks_inodes inode_fallen) 0 a.geometry.agcount

  -- the three phases over all groups, each by what the one before left
  abbrev pub phases_events : List Event
  phases_events =
      phase_events a Inodes lacks_nothing 0 a.geometry.agcount
      ++ phase_events a Mappings (lacks_inodes inode_fallen) 0 a.geometry.agcount
      ++ phase_events a Space (lacks_mappings mappings_passed) 0 a.geometry.agcount

-- the phases do what a session over the state does
abbrev pub PhasesAreSession : Type 0
PhasesAreSession = (a : State) → phases_events a ≡ check_events a

-- reverse mappings that passed can be read
abbrev pub PassedCanBeRead : Type 0
PassedCanBeRead = (a : State) → AreReadable a (mappings_passed a)

-- ---- what a session is

-- the entries of a whole check are a session, whatever status it ends with that isn't cut short or never begun
abbrev pub CheckIsSession : Type 0
CheckIsSession = (a : State) (turns status : ℕ) → is_cut status ≡ false → is_refused status ≡ false → Session (unit_order a.geometry.agcount) Check turns a.geometry.agcount status (entries_of (check_events a))

-- those of its first units are one that was cut short
abbrev pub CutIsSession : Type 0
CutIsSession = (a : State) (turns status : ℕ) (ps qs : List Place) → unit_order a.geometry.agcount ≡ ps ++ qs → is_cut status ≡ true → Session (unit_order a.geometry.agcount) Check turns a.geometry.agcount status (entries_of (session_events a [] ps))
