use Rattle.law_cuts.proofs.Unclaimed.Repairs.{given_has_facts, given_keeps_chunks, given_keeps_memory, known_follow}
use Rattle.law_cuts.proofs.unclaimed_laws.given_follow.Goals as goal

pub returns-clause-memory : goal.returns-clause-memory
returns-clause-memory c = given_keeps_memory c.spare_unclaimed.ensures.told c.spare_unclaimed.ensures.known c.images_follow.ensures.memory

pub returns-clause-chunks : goal.returns-clause-chunks
returns-clause-chunks c = given_keeps_chunks c.spare_unclaimed.ensures.told c.spare_unclaimed.ensures.known c.images_follow.ensures.chunks

pub returns-clause-facts : goal.returns-clause-facts
returns-clause-facts c = given_has_facts c.spare_unclaimed.ensures.told c.spare_unclaimed.ensures.known c.images_follow.ensures.facts

pub returns-clause-known : goal.returns-clause-known
returns-clause-known c = known_follow c.spare_unclaimed.ensures.told c.spare_unclaimed.ensures.known c.images_follow.ensures.letters
