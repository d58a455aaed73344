-- Parts of a core of which the desk changes.
use Rattle.std.proofs.Common.{◌≡◌}
use Rattle.std.specs.Prelude.{None, Result}
use Rattle.blk_device.specs.declared.device.Device.{Ghosts}
use Rattle.core_calls.specs.declared.answers.WriteFault.{WriteFault}
use Rattle.core_chains.proofs.write.PartLemmas.{desk_parts}
use Rattle.core_chains.specs.Write.Writes.{WriteAnswers}
use Rattle.core_parts.specs.Safe.{IsSafe}
use Rattle.core_parts.specs.declared.desk.Desk.{Desk}
use Rattle.core_parts.specs.declared.parts.Parts.{Parts}

module _ {D : Type 0} (d : Ghosts D) where
  pub desk_safe : {T : Type 0} (p : Parts D) (k : Desk D) (answer : Result T WriteFault) → IsSafe d p → p.desk.book.shut ≡ None → WriteAnswers d p.desk k answer → IsSafe d (record p { desk = k })
  desk_safe p k answer s unshut a = (desk_parts d p k answer s unshut a).safe
