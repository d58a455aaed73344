-- Which entries a piece of the reserving adds to the journal ("Reserving New B+Tree Blocks").
use Rattle.std.specs.Prelude.{◌≡◌, ◌⊎◌, ⊤, ◌∷◌, [], ◌++◌, ℕ, Bool, true, false, List, Result, Ok, Err}
use Rattle.ag_headers.specs.Ring.{entries as list_entries}
use Rattle.core_build.specs.Pieces.{work_if}
use Rattle.core_calls.specs.declared.answers.ScrubFault.{ScrubFault}
use Rattle.core_calls.specs.declared.answers.ScrubFault.TheVariants as faults
use Rattle.core_parts.specs.Common.Entries.{HasMore, IsHalt, entries_on}
use Rattle.core_parts.specs.Common.Kinds.{with_trust}
use Rattle.core_parts.specs.Common.Marks.{marks_of, sick_by}
use Rattle.core_parts.specs.declared.desk.Desk.{Desk}
use Rattle.core_parts.specs.declared.groups.GroupKept.{GroupKept}
use Rattle.core_parts.specs.declared.groups.Trusts.{Trusts}
use Rattle.core_parts.specs.declared.units.Work.{Work}
use Rattle.core_parts.specs.declared.units.Work.TheVariants as works
use Rattle.core_units.specs.Rebuilt.{IsNext}
use Rattle.core_units.specs.declared.rebuild.Next.{Next}
use Rattle.core_units.specs.declared.rebuild.Next.TheVariants.{Met, GaveUp, Listed, Spare}
use Rattle.core_units.specs.declared.rebuild.Rebuild.{Rebuild}
use Rattle.fs_model.specs.declared.entry.Entry.{Entry}
use Rattle.fs_model.specs.declared.entry.Entry.TheVariants as entries
use Rattle.fs_model.specs.declared.fault.Cause.{Cause}
use Rattle.fs_model.specs.declared.unit.Trust.TheVariants.{Sick}
use Rattle.fs_model.specs.declared.unit.Unit.{Unit as ScrubUnit}
use Rattle.fs_model.specs.declared.verdict.Reason.TheVariants.{Space}
use Rattle.sblock.specs.declared.kind.Kind.TheVariants.{Rmap}
use Rattle.core_edit.specs.declared.place.IndexesLeft.{IndexesLeft}
use Rattle.unit_plan.specs.declared.spare.SpaceTrust.{SpaceTrust}

-- a block came into the reserve, and then a mark for each index that was left
abbrev pub reserved_of : ℕ → ScrubUnit → ℕ → Bool → IndexesLeft → List Entry
reserved_of g unit block spare left = entries.Reserved g unit block spare ∷ marks_of g left

-- This block was reserved: it is behind the reserve, and each index that was left is sick.
pub record Takes {D : Type 0} (g : ℕ) (unit : ScrubUnit) (block : ℕ) (spare : Bool) (r s : Rebuild) (p q : GroupKept) (old new : Desk D) : Type 0 where
  pub left : IndexesLeft
  pub entries : HasMore old new (reserved_of g unit block spare left)
  pub behind : s.building.reserve.items ≡ r.building.reserve.items ++ block ∷ []
  pub trust : q.trust ≡ sick_by left p.trust

-- No index would note the block: reverse mappings are marked and sick, and nothing is reserved.
pub record IsUnnoted {D : Type 0} (g : ℕ) (p q : GroupKept) (old new : Desk D) : Type 0 where
  pub cause : Cause
  pub entries : HasMore old new (entries.Marked g Rmap cause ∷ [])
  pub trust : q.trust ≡ with_trust p.trust Rmap Sick

pub record LeavesBlock {D : Type 0} (g : ℕ) (answer : Bool) (r s : Rebuild) (p q : GroupKept) (old new : Desk D) : Type 0 where
  pub unnoted : IsUnnoted g p q old new
  pub told : answer ≡ false
  pub reserve : s.building.reserve.items ≡ r.building.reserve.items

-- what the answer tells of the next thing that a rebuild needs, and which entries come
abbrev pub Does : {D : Type 0} → ℕ → ScrubUnit → Next → Bool → (r s : Rebuild) → (p q : GroupKept) → (old new : Desk D) → Type 0
Does g unit Met answer r s p q old new = (answer ≡ true) × HasMore old new [] × (q.trust ≡ p.trust)
Does g unit (GaveUp reason) answer r s p q old new = ⊥
Does g unit (Listed block) answer r s p q old new = Takes g unit block false r s p q old new
Does g unit (Spare block) answer r s p q old new = Takes g unit block true r s p q old new ⊎ LeavesBlock g answer r s p q old new

-- a unit is given up only where that is next, for its reason; else room or memory is wanting, or the core is shut
abbrev pub MayRefuse : Next → ScrubFault → Type 0
MayRefuse next (faults.GaveUp reason) = next ≡ GaveUp reason
MayRefuse next faults.JournalFull = ⊤
MayRefuse next (faults.Shut count) = ⊤
MayRefuse next faults.Memory = ⊤
MayRefuse next fault = ⊥

-- and by a refusal: a unit that is given up has its verdict
abbrev pub SaysNext : {D : Type 0} → ℕ → ScrubUnit → Next → (r s : Rebuild) → (p q : GroupKept) → (old new : Desk D) → Result Bool ScrubFault → Type 0
SaysNext g unit next r s p q old new (Ok answer) = Does g unit next answer r s p q old new
SaysNext g unit next r s p q old new (Err fault) = MayRefuse next fault × HasMore old new (entries_on g unit fault)

-- of a block that was edited
abbrev pub SaysTaken : {D : Type 0} → ℕ → ScrubUnit → ℕ → Bool → (r s : Rebuild) → (p q : GroupKept) → (old new : Desk D) → Result Bool ScrubFault → Type 0
SaysTaken g unit block spare r s p q old new (Ok answer) = Takes g unit block spare r s p q old new
SaysTaken g unit block spare r s p q old new (Err fault) = IsHalt fault × HasMore old new (entries_on g unit fault)

-- ---- a whole piece

-- what is known of the btrees by which a spare block is looked for
abbrev pub space_in : Trusts → SpaceTrust
space_in t = record { bno = t.bno; cnt = t.cnt; rmap = t.rmap }

-- what this rebuild needs next, by what is kept of its group
abbrev pub IsNextBy : GroupKept → Rebuild → Next → Type 0
IsNextBy p r next = IsNext (space_in p.trust) (list_entries p.heads.list) r.trees r.building next

-- the same by what is kept of the group
abbrev pub MayRefuseBy : GroupKept → Rebuild → ScrubFault → Type 0
MayRefuseBy p r (faults.GaveUp reason) = IsNextBy p r (GaveUp reason)
MayRefuseBy p r faults.JournalFull = ⊤
MayRefuseBy p r (faults.Shut count) = ⊤
MayRefuseBy p r faults.Memory = ⊤
MayRefuseBy p r fault = ⊥

abbrev pub SaysPiece : {D : Type 0} → ℕ → ScrubUnit → (r s : Rebuild) → (p q : GroupKept) → (old new : Desk D) → Result Bool ScrubFault → Type 0
SaysPiece g unit r s p q old new (Ok answer) = (next : Next) × IsNextBy p r next × Does g unit next answer r s p q old new
SaysPiece g unit r s p q old new (Err fault) = MayRefuseBy p r fault × HasMore old new (entries_on g unit fault)

-- A piece of this rebuild, which is the unit's work then: the next thing that it needs was done.
pub record Reserves {D : Type 0} (g : ℕ) (unit : ScrubUnit) (answer : Bool) (r : Rebuild) (w : Work) (p q : GroupKept) (old new : Desk D) : Type 0 where
  pub built : Rebuild
  pub work : w ≡ work_if built answer
  pub next : Next
  pub chosen : IsNextBy p r next
  pub does : Does g unit next answer r built p q old new

abbrev pub SaysFrom : {D : Type 0} → ℕ → ScrubUnit → Rebuild → Work → (p q : GroupKept) → (old new : Desk D) → Result Bool ScrubFault → Type 0
SaysFrom g unit r w p q old new (Ok answer) = Reserves g unit answer r w p q old new
SaysFrom g unit r w p q old new (Err fault) = MayRefuseBy p r fault × HasMore old new (entries_on g unit fault)

-- the rebuild is the unit's work, or was begun of what was judged
abbrev pub IsBegun : Work → Rebuild → Type 0
IsBegun (works.Building rebuild) r = r ≡ rebuild
IsBegun (works.Chosen judging) r = r.building.unit ≡ judging.unit
IsBegun work r = ⊥

-- the unit is given up only where no block is to be had for its rebuild, or it is in another phase
abbrev pub MayRefuseOf : Work → GroupKept → ScrubFault → Type 0
MayRefuseOf was p (faults.GaveUp reason) = (r : Rebuild) × IsBegun was r × IsNextBy p r (GaveUp reason)
MayRefuseOf was p (faults.OtherPhase phase) = ⊤
MayRefuseOf was p faults.JournalFull = ⊤
MayRefuseOf was p (faults.Shut count) = ⊤
MayRefuseOf was p faults.Memory = ⊤
MayRefuseOf was p fault = ⊥

-- What a piece adds, by its answer and the work before and after it: the entry of the block that is chosen next, with
-- its marks, or that of a unit that is given up.
abbrev pub SaysReserving : {D : Type 0} → ℕ → ScrubUnit → (was w : Work) → (p q : GroupKept) → (old new : Desk D) → Result Bool ScrubFault → Type 0
SaysReserving g unit was w p q old new (Ok answer) = (r : Rebuild) × IsBegun was r × Reserves g unit answer r w p q old new
SaysReserving g unit was w p q old new (Err fault) = MayRefuseOf was p fault × HasMore old new (entries_on g unit fault)

-- ---- which refusals come

-- of a piece of the reserving: the unit is given up for want of space alone, and waits for nobody
abbrev pub GivesSpace : ScrubFault → Type 0
GivesSpace (faults.GaveUp (Space reserve need)) = ⊤
GivesSpace (faults.OtherPhase phase) = ⊤
GivesSpace faults.JournalFull = ⊤
GivesSpace (faults.Shut count) = ⊤
GivesSpace faults.Memory = ⊤
GivesSpace fault = ⊥

-- of a piece of the staging
abbrev pub MayStage : ScrubFault → Type 0
MayStage (faults.OtherPhase phase) = ⊤
MayStage faults.JournalFull = ⊤
MayStage (faults.Shut count) = ⊤
MayStage faults.Memory = ⊤
MayStage fault = ⊥
