-- What a refusal leaves of the work on a unit ("Metadata Scrubbing").
use Rattle.std.specs.Prelude.{◌≡◌, ◌⊎◌, ⊤, ℕ, ◌+◌, Result, Ok, Err}
use Rattle.core_begin.specs.declared.moves.Reach.{Reach}
use Rattle.core_begin.specs.declared.moves.Reach.TheVariants as reaches
use Rattle.core_calls.specs.declared.answers.ScrubFault.{ScrubFault}
use Rattle.core_calls.specs.declared.answers.ScrubFault.TheVariants as faults
use Rattle.core_parts.specs.declared.parts.Parts.{Parts}
use Rattle.core_parts.specs.declared.units.UnitState.{UnitState}
use Rattle.core_parts.specs.declared.units.Work.TheVariants as works
use Rattle.core_scan.specs.Calls.{IsAt, Stays}
use Rattle.core_scan.specs.declared.scan.Moved.TheVariants.{End}
use Rattle.core_scan.specs.declared.scan.Scan.{Scan}
use Rattle.fs_state.specs.Session.{FitsReason}

-- A unit that is given up has no work left, one that waits for a writer has lost a turn more; else it stays.
abbrev pub left_by : UnitState → ScrubFault → UnitState
left_by u (faults.Busy ino) = record u { asked = u.asked + 1 }
left_by u (faults.Draining g count) = record u { asked = u.asked + 1 }
left_by u (faults.GaveUp reason) = record u { work = works.Judged }
left_by u fault = u

-- the unit waits for a writer
abbrev pub IsWait : ScrubFault → Type 0
IsWait (faults.Busy ino) = ⊤
IsWait (faults.Draining g count) = ⊤
IsWait fault = ⊥

-- The unit still scans: its scan has the group that it had, and a cursor that didn't fall; all else of the unit stays.
pub record ScansOn (old new : UnitState) : Type 0 where
  pub was : Scan
  pub now : Scan
  pub scanning : old.work ≡ works.Scanning was
  pub stays : Stays was now
  pub rest : new ≡ record old { work = works.Scanning now }

-- and it is at the end of its scan
pub record IsAtEnd (old new : UnitState) : Type 0 where
  pub on : ScansOn old new
  pub end : IsAt End on.now

-- after a move that was refused; without memory it may have come to the end of its scan
abbrev pub IsLeftByMove : UnitState → ScrubFault → UnitState → Type 0
IsLeftByMove old faults.Memory new = (new ≡ old) ⊎ IsAtEnd old new
IsLeftByMove old fault new = new ≡ left_by old fault

-- after a piece that was refused
abbrev pub IsLeftByPiece : UnitState → ScrubFault → UnitState → Type 0
IsLeftByPiece old faults.JournalFull new = ScansOn old new
IsLeftByPiece old (faults.Shut count) new = ScansOn old new
IsLeftByPiece old faults.Memory new = ScansOn old new
IsLeftByPiece old fault new = new ≡ left_by old fault

-- the unit is given up, or has no room for its verdict
abbrev pub IsGivingUp : ScrubFault → Type 0
IsGivingUp (faults.GaveUp reason) = ⊤
IsGivingUp faults.JournalFull = ⊤
IsGivingUp faults.Memory = ⊤
IsGivingUp fault = ⊥

-- no unit was opened, and what is kept of the groups stays
pub record IsSetAside {D : Type 0} (old new : Parts D) : Type 0 where
  pub units : new.units ≡ old.units
  pub groups : new.groups ≡ old.groups

-- ---- which refusals may come

-- of a piece, where the unit may lose so many turns
abbrev pub MayRead : ℕ → ScrubFault → Type 0
MayRead turns (faults.GaveUp reason) = FitsReason turns reason
MayRead turns (faults.OtherPhase phase) = ⊤
MayRead turns faults.JournalFull = ⊤
MayRead turns (faults.Shut count) = ⊤
MayRead turns faults.Memory = ⊤
MayRead turns fault = ⊥

-- of a move, which may also find an inode held
abbrev pub MayMove : ℕ → ScrubFault → Type 0
MayMove turns (faults.Busy ino) = ⊤
MayMove turns fault = MayRead turns fault

-- of the closing of a gate, which may also find intents unfinished
abbrev pub MayClose : ℕ → ScrubFault → Type 0
MayClose turns (faults.Draining g count) = ⊤
MayClose turns fault = MayRead turns fault

-- the unit is in another phase
abbrev pub IsOtherPhase : ScrubFault → Type 0
IsOtherPhase (faults.OtherPhase phase) = ⊤
IsOtherPhase fault = ⊥

-- ---- the moves of a scan

-- it doesn't move
abbrev pub IsStuck : Reach → Type 0
IsStuck (reaches.At ino) = ⊥
IsStuck reaches.End = ⊥
IsStuck (reaches.Busy ino) = ⊤
IsStuck (reaches.Bad block) = ⊤

-- what is left of a unit whose scan has come there, where that is refused
abbrev pub IsLeftAt : Reach → UnitState → ScrubFault → UnitState → Type 0
IsLeftAt (reaches.At ino) old fault new = ⊥
IsLeftAt reaches.End old fault new = (fault ≡ faults.Memory) × (new ≡ old)
IsLeftAt (reaches.Busy ino) old fault new = new ≡ left_by old fault
IsLeftAt (reaches.Bad block) old fault new = new ≡ left_by old fault

-- where a scan has come to: at the end, or where it was, unless it holds an inode
abbrev pub Reaches : Scan → Scan → Result Reach ScrubFault → Type 0
Reaches old new (Ok (reaches.At ino)) = ⊤
Reaches old new (Ok reaches.End) = IsAt End new
Reaches old new (Ok (reaches.Busy ino)) = new ≡ old
Reaches old new (Ok (reaches.Bad block)) = new ≡ old
Reaches old new (Err fault) = new ≡ old
