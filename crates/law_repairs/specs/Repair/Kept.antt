-- Entries that edit no tree: what they keep of what is known.
use Rattle.std.specs.Prelude.{ℕ, List, [], Option}
use Rattle.fs_change.specs.Loose.{Loosely}
use Rattle.fs_change.specs.Step.{Step}
use Rattle.fs_model.specs.declared.entry.Entry.{Entry}
use Rattle.fs_model.specs.declared.entry.Entry.TheVariants as entries
use Rattle.fs_model.specs.declared.fault.Cause.{Cause}
use Rattle.fs_model.specs.declared.event.Refused.{Refused}
use Rattle.fs_model.specs.declared.fault.Fault.{Fault}
use Rattle.fs_model.specs.declared.unit.Unit.{Unit as ScrubUnit}
use Rattle.fs_model.specs.declared.verdict.Verdict.{Verdict}
use Rattle.fs_model.specs.declared.verdict.Verdict.TheVariants as verdicts
use Rattle.fs_state.specs.State.{State}
use Rattle.geom.specs.Apart.{Splits}
use Rattle.law_repairs.specs.Repair.Alike.{Alike}
use Rattle.law_repairs.specs.Repair.Letters.{Holds, Stands}
use Rattle.sblock.specs.declared.kind.Kind.{Kind}

-- where no tree is edited no block moves
abbrev pub NoneMoves : Type 0
NoneMoves = (a x b : State) (g : ℕ) (left : List Kind) → Splits x.geometry → Loosely g left [] a x b → Alike x b

-- the entry keeps what is known of each unit
abbrev pub KeepsKnown : Entry → Type 0
KeepsKnown e = (a b : State) (left : List Kind) (h : ℕ) (unit : ScrubUnit) → Splits a.geometry → Step a left e b → Stands a h unit → Stands b h unit

-- a mark, and a fault that is found, end only what is known of their own unit
abbrev pub MarkedKeeps : Type 0
MarkedKeeps = (g : ℕ) (k : Kind) (cause : Cause) → KeepsKnown (entries.Marked g k cause)

abbrev pub FaultKeeps : Type 0
FaultKeeps = (g : ℕ) (own : ScrubUnit) (fault : Fault) → KeepsKnown (entries.Fault g own fault)

-- nothing comes of a verdict but trust: that a unit is good is said where it holds
abbrev pub IsTrue : State → ℕ → ScrubUnit → Verdict → Type 0
IsTrue a g unit verdicts.Good = Holds a g unit
IsTrue a g unit verdict = Unit {0}

abbrev pub VerdictKeeps : Type 0
VerdictKeeps = (a b : State) (left : List Kind) (g : ℕ) (own : ScrubUnit) (verdict : Verdict) (h : ℕ) (unit : ScrubUnit) → Splits a.geometry
    → Step a left (entries.Verdict g own verdict) b → IsTrue a g own verdict → Stands a h unit → Stands b h unit

abbrev pub ReplyKeeps : Type 0
ReplyKeeps = (writer line code done : ℕ) (refused : Option Refused) (begun : Option ℕ) → KeepsKnown (entries.Reply writer line code done refused begun)
