use Rattle.std.proofs.Common.{◌≡◌}
use Rattle.sblock.specs.Lists.{items_from}
use Rattle.sblock.proofs.leaf.leaf_records.Given as goal

abbrev pub invariant-loop-i : goal.invariant-loop-i
invariant-loop-i g l = l.records.items ≡ items_from (g.K.RecKind.form.record_at l.area) l.i 0
