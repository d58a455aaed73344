use Rattle.std.proofs.Common.{refl}
use Rattle.core_build.proofs.SayLemmas.{memory_by, memory_on, piece_exit, piece_says}
use Rattle.core_build.proofs.reserving.reserve_one.Goals as goal

pub returns-in_err-next-clause-says : goal.returns-in_err-next-clause-says
returns-in_err-next-clause-says g c =
    piece_exit c.args.place.now.group c.args.place.now.unit c.args.rebuild.now c.next_of.new.rebuild c.args.kept.now c.args.kept.now c.args.desk.now c.args.desk.now c.in_err-next.field-0.0 c.from_residual.result c.from_residual.ensures
    (memory_by c.args.kept.now c.args.rebuild.now c.in_err-next.field-0.0 c.in_err-next.ensures.memory)
    (memory_on c.args.desk.now c.args.desk.now c.args.place.now.group c.args.place.now.unit c.in_err-next.field-0.0 c.in_err-next.ensures.memory refl)

pub returns-clause-says : goal.returns-clause-says
returns-clause-says g c =
    piece_says c.args.place.now.group c.args.place.now.unit c.in_ok-next.next c.args.rebuild.now c.next_of.new.rebuild c.do_next.new.rebuild c.args.kept.now c.do_next.new.kept c.args.desk.now c.do_next.new.desk c.do_next.result
    c.in_ok-next.ensures.chosen c.in_ok-next.ensures.reserve c.do_next.ensures.says
