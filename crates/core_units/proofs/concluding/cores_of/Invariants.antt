use Rattle.std.proofs.Common.{◌≡◌, take}
use Rattle.quiet_check.specs.Judged.{cores_in}
use Rattle.core_units.proofs.concluding.cores_of.Given as goal

-- the units so far
abbrev pub invariant-loop-unit : goal.invariant-loop-unit
invariant-loop-unit l = l.cores.items ≡ cores_in (take l.unit-index l.seen)
