use Rattle.std.proofs.Common.{◌≡◌, ◌-◌, ◌≤◌, ◌++◌}
use Rattle.sblock.specs.Blocks.{records_of}
use Rattle.sblock.specs.Kinds.{leaf_most_of}
use Rattle.sblock.specs.Lists.{items_from}
use Rattle.tree_find.specs.Next.{records_above}
use Rattle.tree_find.proofs.places.records_after.Given as goal

-- what was taken and what is left are all that lies above
abbrev pub invariant-loop-i : goal.invariant-loop-i
invariant-loop-i g l = record {
  whole : l.recs.items ++ items_from (g.K.RecKind.form.record_at l.area) (l.i-end - l.i) l.i ≡ records_above g.K.RecKind.form l.fn.after (records_of g.K.RecKind.form l.fn.block.bytes);
  room : l.i-end ≤ leaf_most_of g.K.RecKind.form.kind;
}
