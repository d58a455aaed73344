use Rattle.core_chains.proofs.write.PartLemmas.{left_parts}
use Rattle.core_chains.proofs.steps.frees.step_asked_for.Goals as goal

pub returns-clause-left : goal.returns-clause-left
returns-clause-left g c =
    left_parts g.D.Device c.args.parts.now c.step_among.new.desk c.step_among.new.groups c.step_among.result c.requires.safe c.requires.unshut c.step_among.ensures.left c.step_among.ensures.reason
