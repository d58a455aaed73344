use Rattle.core_chains.proofs.steps.PartLemmas.{place_on}
use Rattle.core_chains.proofs.steps.rmaps.step_heard.Goals as goal

pub returns-in-Ok-step_among-clause-stays : goal.returns-in-Ok-step_among-clause-stays
returns-in-Ok-step_among-clause-stays g c =
    place_on c.args.place.now c.take_room.new.place c.hear.new.place c.take_room.ensures.stays c.hear.ensures.stays
