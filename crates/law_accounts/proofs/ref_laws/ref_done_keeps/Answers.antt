use Rattle.law_accounts.proofs.Ref.Stated.{ref_done_counts, ref_done_stated}
use Rattle.law_accounts.proofs.Ref.Steps.{ref_done_sound}
use Rattle.law_accounts.proofs.ref_laws.ref_done_keeps.Goals as goal

pub returns-clause-each : goal.returns-clause-each
returns-clause-each c = ref_done_sound

pub returns-clause-stated : goal.returns-clause-stated
returns-clause-stated c = ref_done_stated

pub returns-clause-counts : goal.returns-clause-counts
returns-clause-counts c = ref_done_counts
