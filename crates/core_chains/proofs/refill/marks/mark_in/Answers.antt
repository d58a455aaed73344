use Rattle.core_chains.proofs.write.SaysLemmas.{met_faulty}
use Rattle.core_chains.proofs.refill.marks.mark_in.Goals as goal

pub returns-clause-said : goal.returns-clause-said
returns-clause-said g c = met_faulty c.args.g c.args.kind c.args.cause c.args.desk.now.book.journal.items c.mark_one.new.desk.book.journal.items c.mark_one.ensures.said
