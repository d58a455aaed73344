use Rattle.std.proofs.Common.{ℕ, List, sym, subst}
use Rattle.core_units.specs.Released.{BlocksEnd}
use Rattle.core_units.proofs.RebuildLemmas.{drop_end}
use Rattle.core_units.proofs.released.last_of.Goals as goal

pub returns-clause-ends : goal.returns-clause-ends
returns-clause-ends c = λ h. subst (λ (l : List ℕ). BlocksEnd l) (sym c.tail_of.ensures.1) (drop_end c.tail_of.ensures.0 c.args.reserve.now h)
