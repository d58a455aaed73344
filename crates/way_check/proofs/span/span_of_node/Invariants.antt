use Rattle.std.proofs.Common.{◌≡◌}
use Rattle.sblock.specs.Area.{area_of}
use Rattle.sblock.specs.Lists.{items_from}
use Rattle.sblock.specs.Spans.{span_over}
use Rattle.tree_defs.specs.Tree.{entry_at}
use Rattle.place_laws.specs.Keys.{spans_in}
use Rattle.way_check.proofs.span.span_of_node.Given as goal

-- the keys so far are those of the first entries
abbrev pub invariant-loop-i : goal.invariant-loop-i
invariant-loop-i g l = l.span ≡ span_over g.K.RecKind.form (spans_in (items_from (entry_at g.K.RecKind.form (area_of l.block.bytes)) l.i 0))
