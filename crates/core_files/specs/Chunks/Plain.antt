-- Refusals that tell neither of the device nor of the journal.
use Rattle.std.specs.Prelude.{⊤}
use Rattle.core_calls.specs.declared.answers.WriteFault.{WriteFault}
use Rattle.core_calls.specs.declared.answers.WriteFault.TheVariants as faults
use Rattle.core_chains.specs.declared.refill.halts.Halt.{Halt}
use Rattle.core_chains.specs.declared.refill.halts.Halt.TheVariants as halts

abbrev pub IsPlain : WriteFault → Type 0
IsPlain (faults.Shut n) = ⊥
IsPlain faults.JournalFull = ⊥
IsPlain fault = ⊤

-- the event is refused so
abbrev pub IsPlainHalt : Halt → Type 0
IsPlainHalt (halts.Refused fault) = IsPlain fault
IsPlainHalt halt = ⊥
