use Rattle.core_chains.proofs.steps.SaidLemmas.{freed_from}
use Rattle.core_chains.specs.Steps.Entries.Fate.{Given}
use Rattle.core_chains.proofs.steps.frees.free_run.Goals as goal

pub returns-in-Ok-clause-said : goal.returns-in-Ok-clause-said
returns-in-Ok-clause-said g c =
    freed_from c.args.desk.now.book c.give_sound.new.desk.book c.say_given.new.desk.book.journal.items c.args.next.now.number c.args.next.now.intent (Given c.in-Ok.left.bno c.in-Ok.left.cnt) c.in-Ok.ensures.book c.say_given.ensures.said
