use Rattle.law_repairs.proofs.Memory.Sound.{covered_refill_is_new, sound_refill_is_new}
use Rattle.law_repairs.proofs.memory_laws.refills_are_new.Goals as goal

pub returns-clause-sound : goal.returns-clause-sound
returns-clause-sound c = sound_refill_is_new c.records_found.ensures.refilled

pub returns-clause-covered : goal.returns-clause-covered
returns-clause-covered c = covered_refill_is_new c.records_found.ensures.refilled
