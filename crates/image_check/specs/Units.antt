-- What each journal of a check is, whether the device tells its content or not: the units of all groups in the order of a
-- session, each with its faults and its verdict, given up, or skipped for a unit that it needs. How many blocks are read
-- isn't told then, and stands as 0.
use Rattle.std.specs.Prelude.{◌≡◌, ◌<◌, ℕ, ◌⊎◌, List, [], ◌∷◌, ◌++◌, Result, Ok, Err}
use Rattle.std.specs.Global.{Vec}
use Rattle.check_phases.specs.Parts.{AreParts, IsInodePart, IsJudgedPart, IsSpacePart, skipped_event}
use Rattle.fs_state.specs.Session.{Place}
use Rattle.fs_model.specs.declared.entry.Entry.{Entry}
use Rattle.fs_model.specs.declared.unit.Unit.TheVariants as units
use Rattle.space_check.specs.Events.{Event, AreDone, StopsIn}
use Rattle.space_check.specs.Session.{come_to}
use Rattle.space_check.specs.declared.halt.Halt.{Halt}
use Rattle.space_check.specs.declared.halt.Halt.TheVariants as halts
use Rattle.space_check.specs.declared.stop.CheckStop.{CheckStop}

-- the reverse mappings of a group are judged
abbrev pub IsMappingPart : ℕ → List Event → Type 0
IsMappingPart g events = IsJudgedPart g units.Rmap events

-- they are skipped for this unit
abbrev pub IsSkippedFor : Place → ℕ → List Event → Type 0
IsSkippedFor needed g events = events ≡ skipped_event g units.Rmap needed.0 needed.1 ∷ []

-- they are skipped for the inodes of group h
abbrev pub IsSkippedPart : ℕ → ℕ → List Event → Type 0
IsSkippedPart h g events = IsSkippedFor (h, units.Inode) g events

-- those of all groups are judged, or all are skipped for the inodes of one group
abbrev pub AreMappings : ℕ → List Event → Type 0
AreMappings n events = AreParts IsMappingPart n events ⊎ ((h : ℕ) × (h < n) × AreParts (IsSkippedPart h) n events)

-- all units of n groups in the order of a session
pub record AreUnits (n : ℕ) (events : List Event) : Type 0 where
  pub inodes : List Event
  pub mappings : List Event
  pub space : List Event
  pub inode_parts : AreParts IsInodePart n inodes
  pub mapping_parts : AreMappings n mappings
  pub space_parts : AreParts IsSpacePart n space
  pub whole : events ≡ inodes ++ mappings ++ space

-- all units of n groups were judged or skipped
pub record HasUnits (n : ℕ) (before after : List Entry) : Type 0 where
  pub events : List Event
  pub units : AreUnits n events
  pub done : AreDone events (come_to before) (come_to after)

-- of the units of n groups the first were judged or skipped, and the next one ended the check
pub record StopsInUnits (n : ℕ) (halt : Halt) (before after : List Entry) : Type 0 where
  pub events : List Event
  pub units : AreUnits n events
  pub stop : StopsIn halt events (come_to before) (come_to after)

abbrev pub EndsInUnits : {T : Type 0} → ℕ → (before after : List Entry) → Result T Halt → Type 0
EndsInUnits n before after (Ok done) = HasUnits n before after
EndsInUnits n before after (Err halt) = StopsInUnits n halt before after

-- ---- a whole check of n groups

-- a head is refused before the first unit
abbrev pub HaltsInSession : ℕ → Halt → (journal : List Entry) → Type 0
HaltsInSession n (halts.Head g head fault) journal = journal ≡ []
HaltsInSession n halts.Full journal = StopsInUnits n halts.Full [] journal
HaltsInSession n halts.Failed journal = StopsInUnits n halts.Failed [] journal
HaltsInSession n halts.Memory journal = StopsInUnits n halts.Memory [] journal

abbrev pub EndsInSession : {T : Type 0} → ℕ → (journal : List Entry) → Result T Halt → Type 0
EndsInSession n journal (Ok done) = HasUnits n [] journal
EndsInSession n journal (Err halt) = HaltsInSession n halt journal

abbrev pub IsSession : ℕ → Result (Vec Entry) CheckStop → Type 0
IsSession n (Ok journal) = HasUnits n [] journal.items
IsSession n (Err stop) = HaltsInSession n stop.cause stop.journal.items
