use Rattle.std.proofs.Common.{◌+◌, length, sym, ◌∙◌}
use Rattle.std.proofs.lemmas.Bool.{leb-true}
use Rattle.xref_scrub.proofs.ShowingLemmas.{shown_at, shown_past}
use Rattle.xref_scrub.proofs.numbers.seek.Goals as goal

pub returns-then-is_past-clause-shown : goal.returns-then-is_past-clause-shown
returns-then-is_past-clause-shown g c =
    shown_past g.K.RecKind.form g.K.Indexed.shown c.args.index.now c.args.derived.now c.args.number
    (leb-true (length c.args.derived.now + length c.args.index.now) c.args.number (sym c.is_past.ensures ∙ c.if-is_past.true))

pub returns-clause-shown : goal.returns-clause-shown
returns-clause-shown g c =
    shown_at g.K.RecKind.form g.K.Indexed.shown c.args.index.now c.args.derived.now c.derived_among-among.result c.args.number c.derived_among-among.ensures.among c.derived_among-among.ensures.parted
