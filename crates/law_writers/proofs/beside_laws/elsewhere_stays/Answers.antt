use Rattle.law_writers.proofs.Beside.Elsewhere.{elsewhere_kept}
use Rattle.law_writers.proofs.beside_laws.elsewhere_stays.Goals as goal

pub returns : goal.returns
returns c = elsewhere_kept
