use Rattle.std.proofs.Common.{◌≡◌}
use Rattle.core_parts.specs.Common.Asks.{IsUsable}
use Rattle.core_parts.specs.Keeps.{IsSteady}
use Rattle.core_edit.specs.Opened.{IsOpen}
use Rattle.core_chains.proofs.refill.trims.unlist_front.Given as goal

abbrev pub invariant-loop : goal.invariant-loop
invariant-loop g l = record {
  usable : IsUsable g.D.Device l.desk;
  steady : IsSteady g.D.Device l.initial.desk l.desk;
  book : l.desk.book ≡ l.initial.desk.book;
  opened : IsOpen g.D.Device l.g l.desk.store;
}
