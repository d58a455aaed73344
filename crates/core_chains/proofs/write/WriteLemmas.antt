-- A writer is told the reason that stopped a call.
use Rattle.std.proofs.Common.{◌≡◌, sym, subst}
use Rattle.std.specs.Prelude.{Err}
use Rattle.core_calls.specs.declared.answers.ScrubFault.{ScrubFault}
use Rattle.core_calls.specs.declared.answers.ScrubFault.TheVariants as scrubs
use Rattle.core_calls.specs.declared.answers.WriteFault.{WriteFault}
use Rattle.core_parts.specs.Reasons.{HasReason}
use Rattle.core_parts.specs.declared.desk.Desk.{Desk}
use Rattle.core_chains.specs.Write.Writes.{HasWriteReason, WritesWell, write_of}

write_reason : {D : Type 0} (k : Desk D) (f : ScrubFault) → HasReason k f → HasWriteReason k (write_of f)
write_reason k (scrubs.Busy ino) has = tt
write_reason k (scrubs.Draining g n) has = tt
write_reason k (scrubs.UnitOpen g u) has = tt
write_reason k (scrubs.Skipped g u) has = tt
write_reason k (scrubs.GaveUp r) has = tt
write_reason k (scrubs.OtherPhase p) has = tt
write_reason k scrubs.JournalFull has = has
write_reason k (scrubs.Shut n) has = has
write_reason k scrubs.Memory has = tt

pub told_reason : {D : Type 0} (k : Desk D) (f : ScrubFault) (w : WriteFault) → w ≡ write_of f → HasReason k f → HasWriteReason k w
told_reason k f w is has = subst (HasWriteReason k) (sym is) (write_reason k f has)

pub told_well : {D : Type 0} (k : Desk D) (f : ScrubFault) (w : WriteFault) → w ≡ write_of f → HasReason k f → WritesWell {T = Unit {0}} k (Err w)
told_well k f w is has = told_reason k f w is has
