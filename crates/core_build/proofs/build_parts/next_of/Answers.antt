use Rattle.std.proofs.Common.{◌∙◌, refl}
use Rattle.core_build.proofs.SayLemmas.{next_by}
use Rattle.core_build.proofs.build_parts.next_of.Goals as goal
use Rattle.core_build.specs.Says.{space_in}

pub returns-in-Ok-clause-chosen : goal.returns-in-Ok-clause-chosen
returns-in-Ok-clause-chosen c =
    next_by (space_in c.args.kept.now.trust) _ c.args.kept.now c.args.rebuild.now c.next_in.result refl (c.as_slice.ensures.value ∙ c.in-Ok.ensures) c.next_in.ensures.chosen
