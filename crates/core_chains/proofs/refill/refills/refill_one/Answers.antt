use Rattle.std.proofs.Common.{refl, sym}
use Rattle.std.proofs.lemmas.Option.{slice_get_read}
use Rattle.core_chains.proofs.refill.SaidLemmas.{group_refilled}
use Rattle.core_chains.proofs.write.PartLemmas.{one_left}
use Rattle.core_chains.proofs.refill.refills.refill_one.Goals as goal

pub returns-clause-left : goal.returns-clause-left
returns-clause-left g c = one_left g.D.Device c.args.desk.now c.refill_group.new.desk c.args.groups.now.items _ c.args.g c.refill_group.new.kept c.requires.given.kept c.refill_group.ensures.halts.desk c.refill_group.ensures.halts.steady c.refill_group.ensures.kept refl

pub returns-clause-said : goal.returns-clause-said
returns-clause-said g c =
    let ks = c.args.groups.now.items in
    let at = slice_get_read ks c.args.desk.now.store.geo.agcount c.args.g c.index_mut.result.now (sym c.requires.given.groups) c.requires.group c.index_mut.ensures.value in
    group_refilled ks c.args.g c.index_mut.result.now c.refill_group.result c.args.desk.now.book.journal.items c.refill_group.new.desk.book.journal.items at c.refill_group.ensures.said
