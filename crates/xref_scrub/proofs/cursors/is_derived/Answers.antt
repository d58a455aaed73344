use Rattle.std.proofs.Common.{sym, ◌∙◌, arith, ℕ, drop, subst}
use Rattle.sblock.specs.Lists.{IsAhead}
use Rattle.xref_scrub.specs.Differences.{comes_before}
use Rattle.xref_scrub.proofs.OrderLemmas.{order_of}
use Rattle.xref_scrub.proofs.RecordLemmas.{not_yet, only_before}
use Rattle.xref_scrub.proofs.cursors.is_derived.Goals as goal

pub returns-then-at-eq0 : goal.returns-then-at-eq0
returns-then-at-eq0 g c =
    let form = g.K.RecKind.form in
    sym (not_yet (comes_before form) (order_of form g.met.K.RecKind.lawful) form.is_same g.met.K.RecKind.lawful.same c.args.rec.now c.args.derived.now c.requires.rising
    (subst (λ (k : ℕ). IsAhead (comes_before form) c.args.rec.now (drop k c.args.derived.now)) c.if-at-eq0.true c.requires.left))

pub returns : goal.returns
returns g c =
    let form = g.K.RecKind.form in
    c.is_same.ensures
    ∙ sym (only_before (comes_before form) (order_of form g.met.K.RecKind.lawful) form.is_same g.met.K.RecKind.lawful.same c.args.rec.now c.index-derived-at.result c.args.derived.now c.args.at (omega arith) (omega arith) c.index-derived-at.is c.requires.rising c.requires.passed c.requires.left)
