use Rattle.unit_plan.proofs.JoinLemmas.{set_others, set_there}
use Rattle.unit_plan.proofs.runs.set_count.Goals as goal

pub returns-clause-there : goal.returns-clause-there
returns-clause-there c = λ d. set_there c.args.pieces.now c.args.at c.args.count d c.requires

pub returns-clause-others : goal.returns-clause-others
returns-clause-others c = λ k d other. set_others c.args.pieces.now c.args.at c.args.count k d other
