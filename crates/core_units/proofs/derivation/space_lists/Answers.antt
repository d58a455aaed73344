use Rattle.std.proofs.Common.{List, subst}
use Rattle.derive_defs.specs.ByCount.{AreByCount}
use Rattle.span_recs.specs.declared.span.SpanRec.{SpanRec}
use Rattle.core_units.proofs.FitLemmas.{space_derived}
use Rattle.core_units.proofs.derivation.space_lists.Goals as goal

pub returns-clause-derived : goal.returns-clause-derived
returns-clause-derived c =
    space_derived c.args.length c.args.mapped.now c.in_ok-bno.bno c.in_ok-cnt.cnt c.requires.short c.in_ok-bno.ensures.exact c.in_ok-bno.ensures.rising c.in_ok-bno.ensures.fits
    (subst (λ (l : List SpanRec). AreByCount l c.in_ok-cnt.cnt.items) c.as_slice.ensures.value c.in_ok-cnt.ensures.exact)
