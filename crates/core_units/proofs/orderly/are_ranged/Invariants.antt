use Rattle.std.proofs.Common.{length}
use Rattle.core_units.specs.Tested.{RoomWithin}
use Rattle.core_units.proofs.orderly.are_ranged.Given as goal

abbrev pub invariant-loop-map : goal.invariant-loop-map
invariant-loop-map l = RoomWithin l.bounds l.rest → RoomWithin l.bounds l.maps

abbrev pub decreases-loop-map : goal.decreases-loop-map
decreases-loop-map l = length l.rest
