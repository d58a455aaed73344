use Rattle.law_cuts.proofs.Spare.Spare.{spare_again, spare_elsewhere, spare_no_chunk}
use Rattle.law_cuts.proofs.spare_laws.spare_leaves_others.Goals as goal

pub returns-clause-no_chunk : goal.returns-clause-no_chunk
returns-clause-no_chunk c = spare_no_chunk

pub returns-clause-elsewhere : goal.returns-clause-elsewhere
returns-clause-elsewhere c = spare_elsewhere

pub returns-clause-again : goal.returns-clause-again
returns-clause-again c = spare_again
