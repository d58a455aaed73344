use Rattle.law_repairs.proofs.Order.Memory.{repair_keeps_memory}
use Rattle.law_repairs.proofs.Order.Repairs.{images_follow, images_have_facts, repair_keeps_chunks}
use Rattle.law_repairs.proofs.order_laws.images_follow.Goals as goal

pub returns-clause-chunks : goal.returns-clause-chunks
returns-clause-chunks c = repair_keeps_chunks c.good_forks.ensures

pub returns-clause-facts : goal.returns-clause-facts
returns-clause-facts c = images_have_facts c.good_forks.ensures

pub returns-clause-letters : goal.returns-clause-letters
returns-clause-letters c = images_follow c.good_forks.ensures

pub returns-clause-memory : goal.returns-clause-memory
returns-clause-memory c = repair_keeps_memory
