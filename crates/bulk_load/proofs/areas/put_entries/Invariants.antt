use Rattle.std.proofs.Common.{◌≡◌, length}
use Rattle.bulk_load.specs.Loaded.{AreEntries, with_entries}
use Rattle.bulk_load.proofs.areas.put_entries.Given as goal

abbrev pub invariant-loop-e : goal.invariant-loop-e
invariant-loop-e g l = record {
  whole : length l.area ≡ 4040;
  read : AreEntries g.K.RecKind.form l.list l.claimed l.level l.first l.area l.e;
  written : l.area ≡ with_entries g.K.RecKind.form l.list l.claimed l.level l.first l.e l.initial.area;
}
