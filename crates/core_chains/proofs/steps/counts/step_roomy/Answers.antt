use Rattle.std.specs.Prelude.{None}
use Rattle.core_chains.proofs.steps.SaidLemmas.{whole_part}
use Rattle.core_chains.specs.Steps.Entries.Counted.{Stretched}
use Rattle.core_chains.proofs.steps.counts.step_roomy.Goals as goal

pub returns-then-is_sick-clause-said : goal.returns-then-is_sick-clause-said
returns-then-is_sick-clause-said g c = (Stretched c.args.next.now.intent.count None None, whole_part c.args.next.now.intent c.requires.step.next.run, c.pass_over.ensures.said)
