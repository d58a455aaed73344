use Rattle.std.proofs.Common.{◌∙◌, ap}
use Rattle.unit_plan.specs.Sets.{pieces_of}
use Rattle.unit_plan.specs.declared.claims.ClaimSet.{ClaimSet}
use Rattle.image_check.proofs.SetLemmas.{one_taken, others_stay}
use Rattle.image_check.proofs.sets.take_set.Goals as goal

pub returns-clause-taken : goal.returns-clause-taken
returns-clause-taken c = ap (λ (s : ClaimSet). pieces_of s) c.replace.ensures.value ∙ one_taken c.args.sets.now c.args.g c.index-sets-g.result c.requires

pub returns-clause-others : goal.returns-clause-others
returns-clause-others c = λ h lt. others_stay c.args.sets.now c.args.g h c.replace.new.dest lt
