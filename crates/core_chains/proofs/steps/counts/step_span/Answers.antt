use Rattle.core_chains.proofs.steps.SaidLemmas.{counted_from}
use Rattle.core_chains.specs.Steps.Entries.Counted.{Stretched}
use Rattle.core_chains.proofs.steps.counts.step_span.Goals as goal

pub returns-in-Ok-clause-said : goal.returns-in-Ok-clause-said
returns-in-Ok-clause-said g c =
    counted_from c.args.desk.now.book c.change_span.new.desk.book c.say_done.new.desk.book.journal.items c.args.next.now.number c.args.next.now.intent (Stretched c.done_of.result.count c.in-Ok.left.refc c.in-Ok.left.rmap) c.in-Ok.ensures.book c.done_of.ensures.part c.say_done.ensures.said
