-- What events leave of all groups.
use Rattle.std.proofs.Common.{◌≡◌, ◌∙◌, ℕ, refl, ap}
use Rattle.std.specs.Prelude.{List, Some, Result, Ok, Err, OnOk, length}
use Rattle.std.specs.List.{slice_get}
use Rattle.blk_device.specs.declared.device.Device.{Ghosts}
use Rattle.core_calls.specs.declared.answers.WriteFault.{WriteFault}
use Rattle.core_parts.proofs.common.AskLemmas.{steady_on}
use Rattle.core_parts.specs.Keeps.{IsSteady}
use Rattle.core_parts.specs.Safe.{AreKept, IsKept}
use Rattle.core_parts.specs.declared.desk.Desk.{Desk}
use Rattle.core_parts.specs.declared.groups.GroupKept.{GroupKept}
use Rattle.core_chains.specs.Write.Writes.{IsLeftAll, WriteAnswers}

-- what is kept of one of the groups
pub kept_one : (ks : List GroupKept) (g : ℕ) (p : GroupKept) → AreKept ks → slice_get ks g ≡ Some p → IsKept p
kept_one ks g p are at = are g p at

module _ {D : Type 0} (d : Ghosts D) where
  -- a call that asked the desk alone
  pub answers_left : {T : Type 0} (old new : Desk D) (answer : Result T WriteFault) (ks : List GroupKept) → AreKept ks → WriteAnswers d old new answer → IsLeftAll d old new ks ks
  answers_left old new answer ks are a = record { desk = a.desk; steady = a.steady; groups = refl; kept = are }

  -- and what comes behind it
  pub asked_left : {T : Type 0} (old mid new : Desk D) (answer : Result T WriteFault) (was ks : List GroupKept) → WriteAnswers d old mid answer → IsLeftAll d mid new was ks → IsLeftAll d old new was ks
  asked_left old mid new answer was ks a b = record { desk = b.desk; steady = steady_on d old mid new a.steady b.steady; groups = b.groups; kept = b.kept }
