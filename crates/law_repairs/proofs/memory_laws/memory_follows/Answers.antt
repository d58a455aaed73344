use Rattle.law_repairs.proofs.Memory.Memory.{entry_keeps_memory, memory_at_every_moment, writer_keeps_memory, writer_keeps_order}
use Rattle.law_repairs.proofs.memory_laws.memory_follows.Goals as goal

pub returns-clause-order : goal.returns-clause-order
returns-clause-order c = writer_keeps_order c.limbo_is_a_set.ensures

pub returns-clause-writer : goal.returns-clause-writer
returns-clause-writer c = writer_keeps_memory c.limbo_is_a_set.ensures

pub returns-clause-entry : goal.returns-clause-entry
returns-clause-entry c = entry_keeps_memory c.limbo_is_a_set.ensures

pub returns-clause-moment : goal.returns-clause-moment
returns-clause-moment c = memory_at_every_moment c.limbo_is_a_set.ensures
