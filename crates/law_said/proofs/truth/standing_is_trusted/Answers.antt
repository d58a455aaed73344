use Rattle.law_said.proofs.Trusted.{past_is_journal, standing_is_trusted}
use Rattle.law_said.proofs.truth.standing_is_trusted.Goals as goal

pub returns-clause-past : goal.returns-clause-past
returns-clause-past c = past_is_journal

pub returns-clause-trusted : goal.returns-clause-trusted
returns-clause-trusted c = standing_is_trusted
