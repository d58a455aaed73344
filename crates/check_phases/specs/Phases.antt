-- In which phases are the units of a check judged? The inodes of every group, then the reverse mappings of every
-- group, then free space and reference counts group by group.
use Rattle.std.specs.Prelude.{◌≡◌, ℕ, Bool, true, false, List, [], ◌∷◌, ◌++◌, flat_map, get_or, map, Option, Some, None}
use Rattle.fs_state.specs.Lists.{numbers}
use Rattle.fs_state.specs.Session.{Place, unit_order}
use Rattle.fs_model.specs.declared.unit.Unit.{Unit as ScrubUnit}
use Rattle.fs_model.specs.declared.unit.Unit.TheVariants as units
use Rattle.fs_state.specs.State.{State}
use Rattle.space_check.specs.Events.{Event}
use Rattle.space_check.specs.Groups.{event}
use Rattle.check_phases.specs.Entries.{passes_after}
use Rattle.quiet_check.specs.Entries.{entries_after}

pub data Phase : Type 0 where
  Inodes : Phase
  Mappings : Phase
  Space : Phase

-- which units of a group does a phase judge?
abbrev pub units_in : Phase → List ScrubUnit
units_in Inodes = units.Inode ∷ []
units_in Mappings = units.Rmap ∷ []
units_in Space = units.Free ∷ units.Refc ∷ []

-- the units of n groups from group g on that a phase judges, in their order
abbrev pub places : Phase → ℕ → ℕ → List Place
places phase g n = flat_map (λ h. map (λ unit. (h, unit)) (units_in phase)) (numbers g n)

-- the three phases, one after the other, are the order of a session
abbrev pub PhasesInOrder : Type 0
PhasesInOrder = (n : ℕ) → places Inodes 0 n ++ places Mappings 0 n ++ places Space 0 n ≡ unit_order n

-- ---- for which unit can't the units of a group be judged, by what the phases before left?

abbrev pub inode_lacked : Option ℕ → Option Place
inode_lacked None = None
inode_lacked (Some g) = Some (g, units.Inode)

abbrev pub mapping_lacked : Bool → ℕ → Option Place
mapping_lacked true g = None
mapping_lacked false g = Some (g, units.Rmap)

-- inodes need nothing
abbrev pub lacks_nothing : ℕ → Option Place
lacks_nothing g = None

-- the first group whose inodes didn't pass keeps all reverse mappings from being judged
abbrev pub lacks_inodes : Option ℕ → ℕ → Option Place
lacks_inodes fallen g = inode_lacked fallen

-- whether the reverse mappings of each group passed
unfoldable pub lacks_mappings : List Bool → ℕ → Option Place
lacks_mappings passed g = mapping_lacked (get_or passed g false) g

-- ---- what they add to the journal

-- how many blocks are read isn't told here, and stands as 0
abbrev pub unit_event : State → ℕ → Option Place → ScrubUnit → Event
unit_event a g lack unit = event 0 (entries_after a g unit lack)

module _ (a : State) (phase : Phase) (lacks : ℕ → Option Place) where
  -- the units of a group, one event each, and whether they pass
  abbrev pub group_events : ℕ → List Event
  group_events g = map (unit_event a g (lacks g)) (units_in phase)

  abbrev pub group_passes : ℕ → List Bool
  group_passes g = map (λ unit. passes_after a g unit (lacks g)) (units_in phase)

  -- those of n groups from group g on
  unfoldable pub phase_events : ℕ → ℕ → List Event
  phase_events g n = flat_map group_events (numbers g n)

  unfoldable pub phase_passes : ℕ → ℕ → List Bool
  phase_passes g n = flat_map group_passes (numbers g n)
