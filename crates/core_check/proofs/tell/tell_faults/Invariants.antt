use Rattle.std.proofs.Common.{◌≡◌, take}
use Rattle.std.specs.Prelude.{map}
use Rattle.core_check.specs.Told.{Tells, entry_of}
use Rattle.unit_trust.specs.Trusts.{KnownBy}
use Rattle.core_check.proofs.tell.tell_faults.Given as goal

abbrev pub invariant-loop-fault : goal.invariant-loop-fault
invariant-loop-fault g l = record {
  told : Tells l.which.group l.which.unit (take l.fault-index l.faults) l.fn.desk l.desk;
  limbo : l.kept.limbo ≡ l.fn.kept.limbo;
  known : KnownBy (map (entry_of l.which.group l.which.unit) (take l.fault-index l.faults)) l.fn.kept l.kept;
}
