-- How many blocks may a part of a check read, by the journal that it leaves? No more than its events that were done may,
-- and the next one, which begins only where the journal has room.
use Rattle.std.specs.Prelude.{◌≡◌, ◌≤◌, ℕ, ◌+◌, ◌-◌, List, [], ◌∷◌, ◌++◌, flat_map, length, map, nat_lt, if◌then◌else◌, Option, Some, None, Result, Ok, Err}
use Rattle.ag_headers.specs.declared.agf.Agf.{Agf}
use Rattle.blk_device.specs.Contents.{Contents}
use Rattle.blk_device.specs.declared.device.Region.TheVariants as regions
use Rattle.fs_state.specs.Lists.{numbers}
use Rattle.fs_state.specs.Session.{Place}
use Rattle.fs_model.specs.declared.entry.Entry.{Entry}
use Rattle.fs_model.specs.declared.unit.Unit.{Unit as ScrubUnit}
use Rattle.fs_model.specs.declared.unit.Unit.TheVariants as units
use Rattle.fs_state.specs.Kinds.{Image, heads_of}
use Rattle.fs_state.specs.State.{State}
use Rattle.geom.specs.Layout.{Layout}
use Rattle.inode_pass.specs.Units.{opened_state}
use Rattle.quiet_check.specs.Counted.{inodes_most, shared_reads}
use Rattle.quiet_check.specs.Entries.{entries_after}
use Rattle.quiet_check.specs.Space.{IsMapped}
use Rattle.rmap_recs.specs.Rmap.{rmap_form}
use Rattle.rmap_recs.specs.declared.records.RmapRec.{RmapRec}
use Rattle.space_check.specs.Events.{Event, Moment, entries_of, moment, most_entries, reads_of}
use Rattle.space_check.specs.Groups.{blocks_read, event, free_reads}
use Rattle.space_check.specs.declared.halt.Halt.{Halt}
use Rattle.tree_blocks.specs.declared.tree.TreeRead.{TreeRead}
use Rattle.check_phases.specs.Phases.{Phase, units_in}
use Rattle.check_phases.specs.declared.part.Part.{Part}
use Rattle.check_phases.specs.declared.tally.Tally.{Tally}

-- these events were done, and no more blocks were read than for them
pub record AreKept (events : List Event) (before after : Moment) : Type 0 where
  pub entries : after.journal ≡ before.journal ++ entries_of events
  pub read : after.reads ≤ before.reads + reads_of events

-- what the next of these events may read, where the journal has room for it
abbrev pub begun_of : List Entry → List Event → ℕ
begun_of journal [] = 0
begun_of journal (next ∷ rest) = if nat_lt (length journal) most_entries then next.reads else 0

-- of these events the first were done, and no more blocks were read than for them and for the next one
pub record StopsKept (events : List Event) (before after : Moment) : Type 0 where
  pub done : List Event
  pub rest : List Event
  pub whole : events ≡ done ++ rest
  pub entries : after.journal ≡ before.journal ++ entries_of done
  pub read : after.reads ≤ before.reads + (reads_of done + begun_of after.journal rest)

abbrev pub KeepsEvents : {T : Type 0} → List Event → (before after : Moment) → Result T Halt → Type 0
KeepsEvents events before after (Ok done) = AreKept events before after
KeepsEvents events before after (Err halt) = StopsKept events before after

-- how far a check has come that counted so many blocks as read
abbrev pub come : Tally → ℕ → Moment
come tally reads = moment tally.journal.entries.items reads

-- ---- the units of a phase, each with the most blocks that its check may read

-- one that is skipped for this unit, or isn't skipped
abbrev pub kept_event : (most : ℕ → ScrubUnit → ℕ) → State → ℕ → Option Place → ScrubUnit → Event
kept_event most a g lack unit = event (most g unit) (entries_after a g unit lack)

module _ (most : ℕ → ScrubUnit → ℕ) (a : State) (phase : Phase) (lacks : ℕ → Option Place) where
  -- those of a group
  abbrev pub group_kept : ℕ → List Event
  group_kept g = map (kept_event most a g (lacks g)) (units_in phase)

  -- those of n groups from group g on
  unfoldable pub phase_kept : ℕ → ℕ → List Event
  phase_kept g n = flat_map group_kept (numbers g n)

-- ---- how many that are

-- the reverse mappings of a group with this head
abbrev pub mapped_reads : Layout → Image → ℕ → Agf → ℕ
mapped_reads at image g agf = blocks_read at image g rmap_form agf.rmap_root agf.rmap_level

-- for free space its two btrees and the reverse mappings, for reference counts their btree; the unit of reverse mappings
-- itself is another crate's
unfoldable pub most_in : Layout → Image → ℕ → ScrubUnit → ℕ
most_in at image g units.Inode = inodes_most at image g
most_in at image g units.Rmap = 0
most_in at image g units.Free = mapped_reads at image g (heads_of at image g).agf + free_reads at image g (heads_of at image g).agf
most_in at image g units.Refc = shared_reads at image g (heads_of at image g).agf

-- ---- steps of the check, where the device tells its content

-- these events
abbrev pub KeepsTold : {T : Type 0} → Option Contents → (Image → List Event) → Tally → ℕ → Tally → ℕ → Result T Halt → Type 0
KeepsTold told events before reads after reads' result = (c : Contents) → told ≡ Some c → KeepsEvents (events (c regions.Image)) (come before reads) (come after reads') result

-- the units of a group in a phase, and those of these groups
abbrev pub KeepsGroup : {T : Type 0} → Layout → Option Contents → Phase → (ℕ → Option Place) → ℕ → Tally → ℕ → Tally → ℕ → Result T Halt → Type 0
KeepsGroup at told phase lacks g before reads after reads' result = KeepsTold told (λ image. group_kept (most_in at image) (opened_state at image) phase lacks g) before reads after reads' result

abbrev pub KeepsPart : {T : Type 0} → Layout → Option Contents → Phase → (ℕ → Option Place) → Part → Tally → ℕ → Tally → ℕ → Result T Halt → Type 0
KeepsPart at told phase lacks part before reads after reads' result =
    KeepsTold told (λ image. phase_kept (most_in at image) (opened_state at image) phase lacks part.from (part.to - part.from)) before reads after reads' result

-- a unit that isn't skipped
abbrev pub unit_kept : Layout → Image → ℕ → ScrubUnit → Event
unit_kept at image g unit = kept_event (most_in at image) (opened_state at image) g None unit

-- it begins once the reverse mappings were read, behind so many blocks
abbrev pub KeepsMapped : {T : Type 0} → Layout → Option Contents → (Image → List Event) → ℕ → Agf → TreeRead RmapRec → Tally → ℕ → Tally → ℕ → Result T Halt → Type 0
KeepsMapped at told events g agf mapped before reads after reads' result = (c : Contents) → told ≡ Some c
    → IsMapped at (c regions.Image) g agf mapped → (first : ℕ) → reads ≤ first + mapped_reads at (c regions.Image) g agf → KeepsEvents (events (c regions.Image)) (come before first) (come after reads') result

-- free space, by these reverse mappings, which were read before; both; reference counts
abbrev pub KeepsFree : {T : Type 0} → Layout → Option Contents → ℕ → Agf → TreeRead RmapRec → Tally → ℕ → Tally → ℕ → Result T Halt → Type 0
KeepsFree at told g agf mapped before reads after reads' result = KeepsMapped at told (λ image. unit_kept at image g units.Free ∷ []) g agf mapped before reads after reads' result

abbrev pub KeepsBoth : {T : Type 0} → Layout → Option Contents → ℕ → Agf → TreeRead RmapRec → Tally → ℕ → Tally → ℕ → Result T Halt → Type 0
KeepsBoth at told g agf mapped before reads after reads' result =
    KeepsMapped at told (λ image. unit_kept at image g units.Free ∷ unit_kept at image g units.Refc ∷ []) g agf mapped before reads after reads' result

abbrev pub KeepsCounts : {T : Type 0} → Layout → Option Contents → ℕ → Agf → TreeRead RmapRec → Tally → ℕ → Tally → ℕ → Result T Halt → Type 0
KeepsCounts at told g agf mapped before reads after reads' result = (c : Contents) → told ≡ Some c
    → IsMapped at (c regions.Image) g agf mapped → KeepsEvents (unit_kept at (c regions.Image) g units.Refc ∷ []) (come before reads) (come after reads') result
