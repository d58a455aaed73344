use Rattle.std.proofs.Common.{sym, subst}
use Rattle.core_units.specs.Staged.{IsAt}
use Rattle.core_units.specs.declared.stage.Staging.{Staging}
use Rattle.core_units.proofs.RebuildLemmas.{at_behind}
use Rattle.core_units.proofs.stage.stage_next.Goals as goal

pub returns-in_ok-next-in-First-clause-at : goal.returns-in_ok-next-in-First-clause-at
returns-in_ok-next-in-First-clause-at g c =
    subst (λ (s : Staging). IsAt c.args.lists.now s) (sym c.behind_first.ensures) (at_behind c.args.lists.now c.in_ok-next-in-First.next c.in_ok-next-in-First.ensures.next)
