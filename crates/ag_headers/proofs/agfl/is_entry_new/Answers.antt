use Rattle.std.proofs.Common.{sym, arith, ◌∙◌}
use Rattle.byte_fields.proofs.BelowLemmas.{one_fails}
use Rattle.ag_headers.specs.Ring.{is_new}
use Rattle.ag_headers.proofs.agfl.is_entry_new.Goals as goal

pub returns-then-not-do_entries_differ : goal.returns-then-not-do_entries_differ
unfolding is_new
returns-then-not-do_entries_differ c = sym (one_fails _ _ c.loop-j.j (omega arith) (sym c.do_entries_differ.ensures ∙ c.if-not-do_entries_differ.true))
