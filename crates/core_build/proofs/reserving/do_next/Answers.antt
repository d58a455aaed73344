use Rattle.core_build.proofs.SayLemmas.{gave_next, met_next, next_as}
use Rattle.core_build.proofs.reserving.do_next.Goals as goal

pub returns-in-Met-clause-says : goal.returns-in-Met-clause-says
returns-in-Met-clause-says g c =
    next_as c.args.place.now.group c.args.place.now.unit c.args.next _ c.args.rebuild.now c.met.new.rebuild c.args.kept.now c.args.kept.now c.args.desk.now c.args.desk.now c.met.result c.in-Met.is
    (met_next c.args.place.now.group c.args.place.now.unit c.args.rebuild.now c.met.new.rebuild c.args.kept.now c.args.desk.now c.met.result c.met.ensures.memory c.met.ensures.told)

pub returns-in-GaveUp-clause-says : goal.returns-in-GaveUp-clause-says
returns-in-GaveUp-clause-says g c =
    next_as c.args.place.now.group c.args.place.now.unit c.args.next _ c.args.rebuild.now c.args.rebuild.now c.args.kept.now c.args.kept.now c.args.desk.now c.give_up.new.desk c.give_up.result c.in-GaveUp.is
    (gave_next c.args.place.now.group c.args.place.now.unit c.in-GaveUp.reason c.args.rebuild.now c.args.kept.now c.args.desk.now c.give_up.new.desk c.give_up.result c.give_up.ensures.never c.give_up.ensures.gives c.give_up.ensures.says)

pub returns-in-Listed-clause-says : goal.returns-in-Listed-clause-says
returns-in-Listed-clause-says g c =
    next_as c.args.place.now.group c.args.place.now.unit c.args.next _ c.args.rebuild.now c.reserve_listed_block.new.rebuild c.args.kept.now c.reserve_listed_block.new.kept c.args.desk.now c.reserve_listed_block.new.desk c.reserve_listed_block.result c.in-Listed.is c.reserve_listed_block.ensures.says

pub returns-in-Spare-clause-says : goal.returns-in-Spare-clause-says
returns-in-Spare-clause-says g c =
    next_as c.args.place.now.group c.args.place.now.unit c.args.next _ c.args.rebuild.now c.reserve_spare_block.new.rebuild c.args.kept.now c.reserve_spare_block.new.kept c.args.desk.now c.reserve_spare_block.new.desk c.reserve_spare_block.result c.in-Spare.is c.reserve_spare_block.ensures.says
