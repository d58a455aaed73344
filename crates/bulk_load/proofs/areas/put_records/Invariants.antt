use Rattle.std.proofs.Common.{◌≡◌, ◌≤◌, List, length, take, drop, true}
use Rattle.std.specs.Prelude.{All}
use Rattle.sblock.specs.Lists.{items_from}
use Rattle.bulk_load.specs.Leaf.{with_records}
use Rattle.bulk_load.proofs.areas.put_records.Given as goal

abbrev pub invariant-loop-i : goal.invariant-loop-i
invariant-loop-i g l = record {
  whole : length l.area ≡ 4040;
  within : l.i ≤ length l.recs;
  has : All (λ r. g.K.RecKind.form.is_written r ≡ true) l.recs → items_from (g.K.RecKind.form.record_at l.area) l.i 0 ≡ take l.i l.recs;
  exact : with_records g.K.RecKind.form (drop l.i l.recs) l.i l.area ≡ with_records g.K.RecKind.form l.recs 0 l.initial.area;
}
