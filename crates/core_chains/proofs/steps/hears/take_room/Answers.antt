use Rattle.core_chains.proofs.steps.PartLemmas.{unit_stays}
use Rattle.core_chains.proofs.steps.hears.take_room.Goals as goal

pub returns-in-Some-clause-stays : goal.returns-in-Some-clause-stays
returns-in-Some-clause-stays c = unit_stays c.args.place.now c.in-Some.unit c.unit_room.new.unit c.in-Some.is c.unit_room.ensures.stays
