use Rattle.way_check.proofs.ReadLemmas.{made_reads_lem}
use Rattle.way_check.proofs.laws.made_reads.Goals as goal

pub returns : goal.returns
returns g c = made_reads_lem g.K.RecKind.form g.met.K.RecKind.lawful
