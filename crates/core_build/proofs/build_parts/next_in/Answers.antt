use Rattle.std.proofs.Common.{subst}
use Rattle.core_build.proofs.SayLemmas.{space_same}
use Rattle.core_build.proofs.build_parts.next_in.Goals as goal
use Rattle.core_units.specs.Rebuilt.{IsNext}
use Rattle.unit_plan.specs.declared.spare.SpaceTrust.{SpaceTrust}

pub returns-clause-chosen : goal.returns-clause-chosen
returns-clause-chosen c =
    subst (λ (t : SpaceTrust). IsNext t c.args.list.now c.args.rebuild.now.trees c.args.rebuild.now.building c.choose_next.result)
    (space_same c.space_trust.result c.args.kept.now.trust c.space_trust.ensures.bno c.space_trust.ensures.cnt c.space_trust.ensures.rmap) c.choose_next.ensures.exact
