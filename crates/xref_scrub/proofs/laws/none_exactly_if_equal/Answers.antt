use Rattle.xref_scrub.proofs.DifferenceLemmas.{none_exactly_if_equal}
use Rattle.xref_scrub.proofs.laws.none_exactly_if_equal.Goals as goal

pub returns : goal.returns
returns g c = none_exactly_if_equal g.K.RecKind.form g.met.K.RecKind.lawful g.K.Indexed.shown
