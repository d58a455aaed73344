use Rattle.core_units.proofs.CompareLemmas.{pieces_are_faults_lem}
use Rattle.core_units.proofs.laws.pieces_are_faults.Goals as goal

pub returns : goal.returns
returns g c = pieces_are_faults_lem g.K.RecKind.form g.met.K.RecKind.lawful g.K.Indexed.shown
