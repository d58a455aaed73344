use Rattle.law_accounts.proofs.Quiet.Ordered.{chunk_ordered, freed_ordered, mapped_ordered, refilled_ordered, trimmed_ordered}
use Rattle.law_accounts.proofs.quiet_laws.space_stays_ordered.Goals as goal

pub returns-clause-mapped : goal.returns-clause-mapped
returns-clause-mapped c = mapped_ordered

pub returns-clause-refilled : goal.returns-clause-refilled
returns-clause-refilled c = refilled_ordered

pub returns-clause-chunk : goal.returns-clause-chunk
returns-clause-chunk c = chunk_ordered

pub returns-clause-freed : goal.returns-clause-freed
returns-clause-freed c = freed_ordered

pub returns-clause-trimmed : goal.returns-clause-trimmed
returns-clause-trimmed c = trimmed_ordered
