use Rattle.unit_trust.proofs.Agreeing.{entries_agree, fresh_agree, opening_agrees}
use Rattle.unit_trust.proofs.laws.journal_agrees.Goals as goal

pub returns : goal.returns
returns c = record { fresh = fresh_agree; entries = entries_agree; opening = opening_agrees }
