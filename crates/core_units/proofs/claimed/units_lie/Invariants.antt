use Rattle.std.proofs.Common.{length}
use Rattle.core_units.specs.Tested.{UnitsWithin}
use Rattle.core_units.proofs.claimed.units_lie.Given as goal

abbrev pub invariant-loop-unit : goal.invariant-loop-unit
invariant-loop-unit l = UnitsWithin l.limit l.rest → UnitsWithin l.limit l.units

abbrev pub decreases-loop-unit : goal.decreases-loop-unit
decreases-loop-unit l = length l.rest
