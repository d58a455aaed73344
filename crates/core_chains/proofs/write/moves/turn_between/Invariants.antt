use Rattle.std.proofs.Common.{◌≡◌}
use Rattle.core_parts.specs.Common.Asks.{IsUsable}
use Rattle.core_parts.specs.Keeps.{IsSteady}
use Rattle.core_edit.specs.Opened.{IsOpen}
use Rattle.core_chains.proofs.write.moves.turn_between.Given as goal

abbrev pub invariant-loop-i : goal.invariant-loop-i
invariant-loop-i g l = record {
  usable : IsUsable g.D.Device l.desk;
  steady : IsSteady g.D.Device l.fn.desk l.desk;
  opened : IsOpen g.D.Device l.g l.desk.store;
  book : l.desk.book ≡ l.fn.desk.book;
  geometry : l.desk.store.geo ≡ l.fn.desk.store.geo;
}
