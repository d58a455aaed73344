use Rattle.law_writers.proofs.Fork.Rows.{converted_claims, mapped_claims, shared_claims, unmapped_claims}
use Rattle.law_writers.proofs.fork_laws.forks_counted.Goals as goal

pub returns-clause-mapped : goal.returns-clause-mapped
returns-clause-mapped c = mapped_claims

pub returns-clause-unmapped : goal.returns-clause-unmapped
returns-clause-unmapped c = unmapped_claims

pub returns-clause-converted : goal.returns-clause-converted
returns-clause-converted c = converted_claims

pub returns-clause-shared : goal.returns-clause-shared
returns-clause-shared c = shared_claims
