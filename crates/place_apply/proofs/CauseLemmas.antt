-- A call that reads no block, behind calls that read some.
use Rattle.std.proofs.Common.{◌≡◌, ℕ, subst, sym}
use Rattle.std.specs.Prelude.{Result}
use Rattle.blk_device.specs.Causes.{HasCause}
use Rattle.edit_terms.specs.Faults.{is_devices}
use Rattle.edit_terms.specs.declared.fault.EditFault.{EditFault}

pub quiet_after : {T : Type 0} (answer : Result T EditFault) (before now : ℕ) → ((n : ℕ) → HasCause is_devices n n answer) → now ≡ before → HasCause is_devices before now answer
quiet_after answer before now quiet same = subst (λ (n : ℕ). HasCause is_devices before n answer) (sym same) (quiet before)
