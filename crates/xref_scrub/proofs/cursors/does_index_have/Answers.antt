use Rattle.std.proofs.Common.{sym, ◌∙◌, arith}
use Rattle.xref_scrub.specs.Differences.{comes_before}
use Rattle.xref_scrub.proofs.OrderLemmas.{order_of}
use Rattle.xref_scrub.proofs.RecordLemmas.{nowhere, only_here}
use Rattle.xref_scrub.proofs.cursors.does_index_have.Goals as goal

pub returns-then-at-index : goal.returns-then-at-index
returns-then-at-index g c =
    let form = g.K.RecKind.form in
    sym (nowhere (comes_before form) (order_of form g.met.K.RecKind.lawful) form.is_same g.met.K.RecKind.lawful.same c.args.rec.now c.args.index.now c.args.at (omega arith) c.requires.passed)

pub returns : goal.returns
returns g c =
    let form = g.K.RecKind.form in
    c.is_same.ensures
    ∙ sym (only_here (comes_before form) (order_of form g.met.K.RecKind.lawful) form.is_same g.met.K.RecKind.lawful.same c.args.rec.now c.index-index-at.result c.args.index.now c.args.at (omega arith) c.index-index-at.is c.requires.rising c.requires.passed c.requires.left)
