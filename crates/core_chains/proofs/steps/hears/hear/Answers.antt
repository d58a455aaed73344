use Rattle.core_chains.proofs.steps.PartLemmas.{unit_stays}
use Rattle.core_chains.proofs.steps.hears.hear.Goals as goal

pub returns-in-Some : goal.returns-in-Some
returns-in-Some c = record { stays = unit_stays c.args.place.now c.in-Some.unit c.unit_hears.new.unit c.in-Some.is c.unit_hears.ensures.stays }
