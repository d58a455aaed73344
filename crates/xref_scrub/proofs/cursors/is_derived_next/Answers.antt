use Rattle.std.proofs.Common.{sym, ap, ◌∙◌, arith, not}
use Rattle.xref_scrub.specs.Differences.{comes_before}
use Rattle.xref_scrub.proofs.CursorLemmas.{second_ended, both_left}
use Rattle.xref_scrub.proofs.cursors.is_derived_next.Goals as goal

pub returns-then-at-index-clause-value : goal.returns-then-at-index-clause-value
returns-then-at-index-clause-value g c =
    sym (second_ended (comes_before g.K.RecKind.form) c.args.derived.now c.args.index.now c.args.at.derived c.args.at.index (omega arith) (omega arith))

pub returns-clause-value : goal.returns-clause-value
returns-clause-value g c =
    ap not c.does_come_before.ensures
    ∙ sym (both_left (comes_before g.K.RecKind.form) c.args.derived.now c.args.index.now c.args.at.derived c.args.at.index c.index-derived-at.result c.index-index-at.result (omega arith) c.index-derived-at.is (omega arith) c.index-index-at.is)
