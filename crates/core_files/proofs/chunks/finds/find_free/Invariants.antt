use Rattle.std.proofs.Common.{◌≡◌}
use Rattle.core_parts.specs.Common.Asks.{IsUsable}
use Rattle.core_parts.specs.Keeps.{IsSteady}
use Rattle.core_files.proofs.chunks.finds.find_free.Given as goal

abbrev pub invariant-loop-g : goal.invariant-loop-g
invariant-loop-g g l = record {
  usable : IsUsable g.D.Device l.desk;
  steady : IsSteady g.D.Device l.initial.desk l.desk;
  book : l.desk.book ≡ l.initial.desk.book;
}
