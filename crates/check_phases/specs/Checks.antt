-- What a part of a check does, or how it ends before its last unit; and the heads that it goes by.
use Rattle.std.specs.Prelude.{◌≡◌, ℕ, ◌+◌, ◌-◌, Bool, true, false, List, [], ◌∷◌, ◌++◌, get_or, Option, None, Result, Ok, Err}
use Rattle.ag_headers.specs.declared.agf.Agf.{Agf}
use Rattle.fs_state.specs.Session.{Place}
use Rattle.fs_model.specs.declared.unit.Unit.{Unit as ScrubUnit}
use Rattle.fs_model.specs.declared.unit.Unit.TheVariants as units
use Rattle.fs_state.specs.Kinds.{Image, heads_of}
use Rattle.fs_state.specs.State.{State, Readable}
use Rattle.geom.specs.Layout.{Layout, group_len_of}
use Rattle.group_trees.specs.Heads.{heads_seen}
use Rattle.group_trees.specs.declared.heads.GroupHeads.{GroupHeads}
use Rattle.inode_pass.specs.Units.{opened_state}
use Rattle.quiet_check.specs.Space.{IsMapped}
use Rattle.rmap_recs.specs.declared.records.RmapRec.{RmapRec}
use Rattle.sblock.specs.declared.kind.Kind.TheVariants.{Rmap}
use Rattle.space_check.specs.Events.{Event, Moment, AreDone, StopsIn}
use Rattle.space_check.specs.Session.{come_to}
use Rattle.space_check.specs.declared.halt.Halt.{Halt}
use Rattle.tree_blocks.specs.declared.tree.TreeRead.{TreeRead}
use Rattle.tree_walk.specs.Trails.{LieInside}
use Rattle.check_phases.specs.Entries.{passes_after}
use Rattle.check_phases.specs.Phases.{Phase, Inodes, Space, lacks_mappings, lacks_nothing, phase_events, phase_passes, unit_event}
use Rattle.check_phases.specs.declared.part.Part.{Part}
use Rattle.check_phases.specs.declared.tally.Tally.{Tally}

-- how far a check has come
abbrev pub reached : Tally → Moment
reached tally = come_to tally.journal.entries.items

-- These events were done, and which of their units passed is put down; or of these events the first ones were done, and
-- the next one ended the check.
abbrev pub Checks : {T : Type 0} → List Event → List Bool → (before after : Tally) → Result T Halt → Type 0
Checks events passes before after (Ok done) = AreDone events (reached before) (reached after) × (after.passed.items ≡ before.passed.items ++ passes)
Checks events passes before after (Err halt) = StopsIn halt events (reached before) (reached after)

-- a unit that is skipped lack this one, or isn't skipped
abbrev pub ChecksUnit : {T : Type 0} → State → Option Place → ℕ → ScrubUnit → (before after : Tally) → Result T Halt → Type 0
ChecksUnit a lack g unit before after result = Checks (unit_event a g lack unit ∷ []) (passes_after a g unit lack ∷ []) before after result

-- the inodes of a group, by the state that the image stands for right after it was opened
abbrev pub ChecksInode : {T : Type 0} → Layout → Image → ℕ → (before after : Tally) → Result T Halt → Type 0
ChecksInode at image g before after result = ChecksUnit (opened_state at image) None g units.Inode before after result

-- free space and reference counts
abbrev pub ChecksSpace : {T : Type 0} → State → Option Place → ℕ → (before after : Tally) → Result T Halt → Type 0
ChecksSpace a lack g before after result =
    Checks (unit_event a g lack units.Free ∷ unit_event a g lack units.Refc ∷ []) (passes_after a g units.Free lack ∷ passes_after a g units.Refc lack ∷ []) before after result

-- both of a group by the state that the image stands for, where the reverse mappings of each group have passed or not
abbrev pub ChecksSpaceOf : {T : Type 0} → Layout → Image → List Bool → ℕ → (before after : Tally) → Result T Halt → Type 0
ChecksSpaceOf at image passed g before after result = ChecksSpace (opened_state at image) (lacks_mappings passed g) g before after result

-- the units of n groups from group g on in a phase
abbrev pub ChecksPhase : {T : Type 0} → State → Phase → (ℕ → Option Place) → (g n : ℕ) → (before after : Tally) → Result T Halt → Type 0
ChecksPhase a phase lacks g n before after result = Checks (phase_events a phase lacks g n) (phase_passes a phase lacks g n) before after result

-- the inodes of these groups, by the state that the image stands for right after it was opened
abbrev pub ChecksInodes : {T : Type 0} → Layout → Image → Part → (before after : Tally) → Result T Halt → Type 0
ChecksInodes at image part before after result = ChecksPhase (opened_state at image) Inodes lacks_nothing part.from (part.to - part.from) before after result

-- free space and reference counts of these groups, where the reverse mappings of each group have passed or not
abbrev pub ChecksSpaces : {T : Type 0} → Layout → Image → Part → List Bool → (before after : Tally) → Result T Halt → Type 0
ChecksSpaces at image part passed before after result = ChecksPhase (opened_state at image) Space (lacks_mappings passed) part.from (part.to - part.from) before after result

-- the reverse mappings of a group can be read
abbrev pub HasMappings : State → ℕ → Type 0
HasMappings a g = (recs : List RmapRec) × (blocks : List ℕ) × (((a.group g).tree Rmap).reading ≡ Readable recs blocks)

-- those that passed can
abbrev pub AreReadable : State → List Bool → Type 0
AreReadable a passed = (g : ℕ) → get_or passed g false ≡ true → HasMappings a g

-- a group's heads are the image's
abbrev pub IsHeadsOf : Layout → Image → ℕ → GroupHeads → Type 0
IsHeadsOf at image g heads = heads_seen heads ≡ heads_of at image g

-- the heads of the groups from group g on, as they were accepted: the blocks of their free lists are the groups'
abbrev pub AreAccepted : Layout → ℕ → List GroupHeads → Type 0
AreAccepted at g [] = Unit {0}
AreAccepted at g (h ∷ hs) = LieInside (group_len_of at g) h.list.items × AreAccepted at (g + 1) hs

-- they are the image's
abbrev pub AreHeads : Layout → Image → ℕ → List GroupHeads → Type 0
AreHeads at image g [] = Unit {0}
AreHeads at image g (h ∷ hs) = IsHeadsOf at image g h × AreHeads at image (g + 1) hs

-- ---- by reverse mappings that were read, where they and the head are the image's

abbrev pub ChecksFree : {T : Type 0} → Layout → Image → ℕ → Agf → TreeRead RmapRec → (before after : Tally) → Result T Halt → Type 0
ChecksFree at image g agf mapped before after result = IsMapped at image g agf mapped → ChecksUnit (opened_state at image) None g units.Free before after result

abbrev pub ChecksCounts : {T : Type 0} → Layout → Image → ℕ → Agf → TreeRead RmapRec → (before after : Tally) → Result T Halt → Type 0
ChecksCounts at image g agf mapped before after result = IsMapped at image g agf mapped → ChecksUnit (opened_state at image) None g units.Refc before after result

abbrev pub ChecksBoth : {T : Type 0} → Layout → Image → ℕ → Agf → TreeRead RmapRec → (before after : Tally) → Result T Halt → Type 0
ChecksBoth at image g agf mapped before after result = IsMapped at image g agf mapped → ChecksSpace (opened_state at image) None g before after result
