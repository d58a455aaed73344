use Rattle.std.proofs.Common.{◌≡◌, ◌≤◌, ◌+◌, length}
use Rattle.std.specs.Prelude.{◌++◌, map}
use Rattle.std.specs.Vec.{vec_capacity, vec_len}
use Rattle.core_parts.specs.Common.Asks.{IsUsable}
use Rattle.core_parts.specs.Keeps.{IsSteady}
use Rattle.core_chains.specs.Refill.Entries.{trimmed, with_blocks}
use Rattle.core_chains.proofs.refill.trims.say_runs.Given as goal

abbrev pub invariant-loop-run : goal.invariant-loop-run
invariant-loop-run g l = record {
  usable : IsUsable g.D.Device l.desk;
  steady : IsSteady g.D.Device l.initial.desk l.desk;
  said : l.desk.book.journal.items ++ map (trimmed l.g) l.rest ≡ l.initial.desk.book.journal.items ++ map (trimmed l.g) l.runs;
  blocks : with_blocks l.count l.rest ≡ with_blocks 0 l.runs;
  room : vec_len l.desk.book.journal + length l.rest ≤ vec_capacity l.desk.book.journal;
}

abbrev pub decreases-loop-run : goal.decreases-loop-run
decreases-loop-run g l = length l.rest
