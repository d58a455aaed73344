use Rattle.xref_scrub.proofs.DifferenceLemmas.{pieces_join}
use Rattle.xref_scrub.proofs.laws.pieces_join.Goals as goal

pub returns : goal.returns
returns g c = pieces_join g.K.RecKind.form g.met.K.RecKind.lawful g.K.Indexed.shown
