use Rattle.core_chains.proofs.refill.SaidLemmas.{refilled_on}
use Rattle.core_chains.proofs.refill.refills.refill_among.Goals as goal

pub returns-clause-said : goal.returns-clause-said
returns-clause-said g c =
    refilled_on c.args.groups.now.items c.args.g c.refill_marked.result c.args.desk.now.book.journal.items c.writer_room.new.desk.book.journal.items c.refill_marked.new.desk.book.journal.items c.in_ok-writer_room.ensures.same.items c.refill_marked.ensures.said
