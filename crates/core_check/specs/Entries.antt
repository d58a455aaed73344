-- Which entries the events of a check add, and what they make of the unit's work ("Metadata Scrubbing").
use Rattle.std.specs.Prelude.{◌≡◌, ◌⊎◌, ⊤, ℕ, ◌+◌, ◌^◌, ◌<◌, ◌∷◌, [], ◌++◌, Bool, true, false, List, Ok, length, map}
use Rattle.ag_headers.specs.Ring.{entries as list_entries}
use Rattle.core_calls.specs.declared.answers.ScrubFault.{ScrubFault}
use Rattle.core_calls.specs.declared.answers.ScrubFault.TheVariants as faults
use Rattle.core_parts.specs.Common.Entries.{HasMore, verdict_entry}
use Rattle.core_edit.specs.declared.heads.EditHeads.{EditHeads}
use Rattle.core_units.specs.Compared.{faults_from}
use Rattle.core_units.specs.Judging.{StaysJudged}
use Rattle.core_units.specs.declared.judging.Judging.{Judging}
use Rattle.core_parts.specs.declared.desk.Desk.{Desk}
use Rattle.core_parts.specs.declared.units.UnitState.{UnitState}
use Rattle.core_parts.specs.declared.units.Work.{Work}
use Rattle.core_parts.specs.declared.units.Work.TheVariants as works
use Rattle.fs_model.specs.declared.entry.Entry.{Entry}
use Rattle.fs_model.specs.declared.fault.Fault.{Fault}
use Rattle.fs_model.specs.declared.unit.Unit.{Unit as ScrubUnit}
use Rattle.fs_model.specs.declared.verdict.Reason.TheVariants.{Contradiction}
use Rattle.fs_model.specs.declared.verdict.Verdict.TheVariants as verdicts
use Rattle.group_trees.specs.declared.heads.GroupHeads.{GroupHeads}
use Rattle.rmap_recs.specs.declared.records.RmapRec.{RmapRec}
use Rattle.core_check.specs.Ends.{end_of}
use Rattle.core_check.specs.Told.{entry_of}
use Rattle.core_check.specs.declared.tell.Outcome.{Outcome}
use Rattle.core_check.specs.declared.tell.Outcome.TheVariants as outcomes
use Rattle.core_check.specs.declared.work.Left.{Left}
use Rattle.core_check.specs.declared.work.Which.{Which}

-- ---- the comparison

-- the verdict with which a comparison ends, if it has one
abbrev pub verdict_by : ℕ → ScrubUnit → Outcome → List Entry
verdict_by g unit outcomes.More = []
verdict_by g unit outcomes.Good = verdict_entry g unit verdicts.Good ∷ []
verdict_by g unit (outcomes.Faulty found) = verdict_entry g unit (verdicts.Faulty found) ∷ []
verdict_by g unit outcomes.Rebuild = []

-- the entries of a piece: one for each fault, in their order, and then the verdict
abbrev pub told_by : ℕ → ScrubUnit → List Fault → Outcome → List Entry
told_by g unit piece outcome = map (entry_of g unit) piece ++ verdict_by g unit outcome

-- the work that follows: the comparison goes on, the unit is judged, or it is to be rebuilt
abbrev pub work_by : Judging → Outcome → Work
work_by judging outcomes.More = works.Gathered judging
work_by judging outcomes.Good = works.Judged
work_by judging (outcomes.Faulty found) = works.Judged
work_by judging outcomes.Rebuild = works.Chosen judging

-- whether the piece was the last
abbrev pub is_end : Outcome → Bool
is_end outcomes.More = false
is_end outcomes.Good = true
is_end (outcomes.Faulty found) = true
is_end outcomes.Rebuild = true

-- what these faults of a piece lead to, which left the comparison there
pub record Follows {D : Type 0} (which : Which) (next : Judging) (piece : List Fault) (old new : Desk D) (left : Left) : Type 0 where
  pub entries : HasMore old new (told_by which.group which.unit piece (end_of which.plan next.at next.found))
  pub work : left.work ≡ work_by next (end_of which.plan next.at next.found)
  pub answer : left.answer ≡ Ok (is_end (end_of which.plan next.at next.found))

-- these are the heads, with the free list in its order
pub record IsListed (heads : EditHeads) (listed : GroupHeads) : Type 0 where
  pub agf : listed.agf ≡ heads.agf
  pub agi : listed.agi ≡ heads.agi
  pub list : listed.list.items ≡ list_entries heads.list

-- The next faults of a unit from where its comparison stands, by the kept heads: those of the piece, and then those from
-- where it stands next. All else of it stays, and the count goes on, as far as it has numbers.
pub record IsNext (counted : Bool) (kept : EditHeads) (was next : Judging) (piece : List Fault) : Type 0 where
  pub listed : GroupHeads
  pub heads : IsListed kept listed
  pub exact : faults_from counted listed was.trees was.lists was.at ≡ piece ++ faults_from counted listed was.trees was.lists next.at
  pub stays : StaysJudged was next
  pub found : was.found + length piece < 2 ^ 64 → next.found ≡ was.found + length piece

-- a piece of the comparison, from the next faults to their entries
pub record TellsNext {D : Type 0} (which : Which) (heads : EditHeads) (was : Judging) (old new : Desk D) (left : Left) : Type 0 where
  pub piece : List Fault
  pub next : Judging
  pub finds : IsNext old.store.geo.inobtcount heads was next piece
  pub follows : Follows which next piece old new left

-- it was a piece of the comparison that the work had come to
pub record TellsPiece {D : Type 0} (which : Which) (heads : EditHeads) (work : Work) (old new : Desk D) (left : Left) : Type 0 where
  pub was : Judging
  pub gathered : work ≡ works.Gathered was
  pub tells : TellsNext which heads was old new left

-- no entry came, and the work is as before
pub record Stands {D : Type 0} (stood : Work) (old new : Desk D) (left : Left) : Type 0 where
  pub items : new.book.journal.items ≡ old.book.journal.items
  pub work : left.work ≡ stood

abbrev pub which_of : UnitState → Which
which_of u = record { group = u.group; unit = u.unit; plan = u.plan }

-- ---- the gathering

-- the runs of the forks' owners by which a unit is gathered
abbrev pub owners_in : Work → List RmapRec
owners_in (works.Closed owners) = owners.items
owners_in (works.Gathering gathered) = gathered.owners.items
owners_in work = []

-- it goes on gathering, by these owners
abbrev pub GathersFor : List RmapRec → Work → Type 0
GathersFor owners (works.Gathering gathered) = gathered.owners.items ≡ owners
GathersFor owners work = ⊥

-- What a refusal leaves of a unit that is gathered. Without memory, or room for its verdict, it goes on gathering, or what
-- was gathered is lost and nothing is left of it; where the device failed, it goes on gathering.
abbrev pub IsGatheredBy : List RmapRec → ScrubFault → Work → Type 0
IsGatheredBy owners (faults.GaveUp reason) new = new ≡ works.Judged
IsGatheredBy owners faults.JournalFull new = GathersFor owners new ⊎ (new ≡ works.Judged)
IsGatheredBy owners (faults.Shut count) new = GathersFor owners new
IsGatheredBy owners faults.Memory new = GathersFor owners new ⊎ (new ≡ works.Judged)
IsGatheredBy owners fault new = ⊥

-- in another phase nothing is done
abbrev pub IsLeftByGathering : Work → ScrubFault → Work → Type 0
IsLeftByGathering old (faults.OtherPhase phase) new = new ≡ old
IsLeftByGathering old fault new = IsGatheredBy (owners_in old) fault new

-- a unit that is gathered is given up by contradicting evidence alone
abbrev pub GivesEvidence : ScrubFault → Type 0
GivesEvidence (faults.GaveUp (Contradiction evidence)) = ⊤
GivesEvidence (faults.GaveUp reason) = ⊥
GivesEvidence fault = ⊤
