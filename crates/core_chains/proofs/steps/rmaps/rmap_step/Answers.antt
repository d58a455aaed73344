use Rattle.core_chains.proofs.steps.SaidLemmas.{has_said, on_ok}
use Rattle.core_chains.specs.Steps.Entries.{SaysRmap}
use Rattle.core_chains.proofs.steps.rmaps.rmap_step.Goals as goal

pub returns-in-Ok-clause-said : goal.returns-in-Ok-clause-said
returns-in-Ok-clause-said g c =
    on_ok c.step_asked_for.result (has_said SaysRmap c.in-Ok.next c.args.chain c.args.parts.now c.step_asked_for.new.parts c.in-Ok.ensures.asked) c.step_asked_for.ensures.said
