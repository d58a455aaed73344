use Rattle.std.proofs.Common.{drop}
use Rattle.sblock.specs.Lists.{Each}
use Rattle.core_units.specs.Room.{has_room}
use Rattle.core_units.proofs.room.have_room.Given as goal

-- all have it where those that are left have it
abbrev pub invariant-loop-rec : goal.invariant-loop-rec
invariant-loop-rec l = Each has_room (drop l.rec-index l.recs) → Each has_room l.recs
