use Rattle.std.proofs.Common.{◌≡◌, ◌++◌, map, take}
use Rattle.unit_plan.specs.Sets.{pieces_of}
use Rattle.core_units.specs.Claims.{owner_piece}
use Rattle.core_units.proofs.claims.put_owners.Given as goal

-- the runs so far
abbrev pub invariant-loop-run : goal.invariant-loop-run
invariant-loop-run l = pieces_of l.set ≡ pieces_of l.fn.set ++ map owner_piece (take l.run-index l.runs)
