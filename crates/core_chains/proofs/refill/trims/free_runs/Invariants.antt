use Rattle.std.proofs.Common.{◌≡◌, length}
use Rattle.core_parts.specs.Common.Asks.{IsUsable}
use Rattle.core_parts.specs.Keeps.{IsSteady}
use Rattle.core_edit.specs.Opened.{IsOpen}
use Rattle.core_chains.proofs.refill.trims.free_runs.Given as goal

abbrev pub invariant-loop-run : goal.invariant-loop-run
invariant-loop-run g l = record {
  usable : IsUsable g.D.Device l.desk;
  steady : IsSteady g.D.Device l.initial.desk l.desk;
  book : l.desk.book ≡ l.initial.desk.book;
  opened : IsOpen g.D.Device l.g l.desk.store;
}

abbrev pub decreases-loop-run : goal.decreases-loop-run
decreases-loop-run g l = length l.rest
