use Rattle.std.proofs.Common.{length}
use Rattle.core_units.specs.Tested.{ApartWithin}
use Rattle.core_units.proofs.orderly.lie_apart.Given as goal

abbrev pub invariant-loop-span : goal.invariant-loop-span
invariant-loop-span l = ApartWithin l.limit l.from l.rest → ApartWithin l.limit 0 l.spans

abbrev pub decreases-loop-span : goal.decreases-loop-span
decreases-loop-span l = length l.rest
