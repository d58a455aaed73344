use Rattle.std.proofs.Common.{sym, arith, ◌∙◌}
use Rattle.byte_fields.proofs.BelowLemmas.{one_fails}
use Rattle.sblock.specs.Blocks.{are_inside}
use Rattle.sblock.proofs.checks.do_entries_lie_inside.Goals as goal

pub returns-then-not-does_entry_lie_inside : goal.returns-then-not-does_entry_lie_inside
unfolding are_inside
returns-then-not-does_entry_lie_inside g c = sym (one_fails _ _ c.loop-i.i (omega arith) (sym c.does_entry_lie_inside.ensures ∙ c.if-not-does_entry_lie_inside.true))
