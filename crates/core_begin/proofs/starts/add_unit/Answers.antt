use Rattle.std.proofs.Common.{List, sym, subst}
use Rattle.std.specs.Prelude.{Option}
use Rattle.core_parts.specs.Safe.{AreUnits}
use Rattle.core_parts.specs.declared.units.UnitState.{UnitState}
use Rattle.core_begin.proofs.BeginLemmas.{units_set}
use Rattle.core_begin.proofs.starts.add_unit.Goals as goal

pub returns-clause-works : goal.returns-clause-works
returns-clause-works c = λ at here all.
    subst (λ (us : List (Option UnitState)). AreUnits at us) (sym c.put_unit.ensures.put) (units_set at c.args.units.now.items c.args.unit all here)
