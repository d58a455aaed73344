use Rattle.std.proofs.Common.{◌≡◌, Option, subst}
use Rattle.core_units.specs.Trees.{IsKnown}
use Rattle.core_units.specs.declared.trees.BadTree.{BadTree}
use Rattle.core_units.proofs.StandingLemmas.{nothing_read, nothing_sound}
use Rattle.core_units.proofs.trees.first_seen.Goals as goal

pub returns-in-None-clause-begun : goal.returns-in-None-clause-begun
returns-in-None-clause-begun g c = λ at image n root levels kept known.
    (subst (λ (tree : Option BadTree). IsKnown tree kept) c.in-None.is known, nothing_read g.K.RecKind.form at image n root levels c.new.result.items c.new-in-None.result.items c.new.ensures.items c.new-in-None.ensures.items)

pub returns-in-None-clause-sound : goal.returns-in-None-clause-sound
returns-in-None-clause-sound g c = λ bounds. nothing_sound g.K.RecKind.form bounds c.new.result.items c.new.ensures.items
