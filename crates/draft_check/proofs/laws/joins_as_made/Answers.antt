use Rattle.draft_check.proofs.DraftLemmas.{reads_over, leaves_others}
use Rattle.draft_check.proofs.laws.joins_as_made.Goals as goal

pub returns : goal.returns
returns c = record { over = reads_over; others = leaves_others }
