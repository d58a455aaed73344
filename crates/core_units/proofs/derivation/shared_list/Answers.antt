use Rattle.core_units.proofs.FitLemmas.{counts_derived}
use Rattle.core_units.proofs.derivation.shared_list.Goals as goal

pub returns-clause-derived : goal.returns-clause-derived
returns-clause-derived c = counts_derived c.in_ok-refc.refc c.in_ok-refc.ensures.rising
