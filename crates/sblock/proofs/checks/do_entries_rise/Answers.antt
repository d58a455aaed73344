use Rattle.std.proofs.Common.{sym, arith, ◌∙◌}
use Rattle.byte_fields.proofs.BelowLemmas.{one_fails}
use Rattle.sblock.specs.Blocks.{is_rising}
use Rattle.sblock.proofs.checks.do_entries_rise.Goals as goal

pub returns-then-not-does_rise_at : goal.returns-then-not-does_rise_at
unfolding is_rising
returns-then-not-does_rise_at g c = sym (one_fails _ _ c.loop-i.i (omega arith) (sym c.does_rise_at.ensures ∙ c.if-not-does_rise_at.true))
