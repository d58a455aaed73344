use Rattle.law_cuts.proofs.Spare.Behind.{converted_tells, finished_tells, mapped_tells, others_tell, shared_tells, unmapped_tells}
use Rattle.law_cuts.proofs.Spare.Cut.{cut_told, sound_once}
use Rattle.law_cuts.proofs.Spare.Elsewhere.{elsewhere_told}
use Rattle.law_cuts.proofs.Spare.Whose.{told_written}
use Rattle.law_cuts.proofs.spare_laws.owners_told_behind.Goals as goal

pub returns-clause-mapped : goal.returns-clause-mapped
returns-clause-mapped c = mapped_tells

pub returns-clause-unmapped : goal.returns-clause-unmapped
returns-clause-unmapped c = unmapped_tells

pub returns-clause-converted : goal.returns-clause-converted
returns-clause-converted c = converted_tells

pub returns-clause-shared : goal.returns-clause-shared
returns-clause-shared c = shared_tells

pub returns-clause-others : goal.returns-clause-others
returns-clause-others c = others_tell

pub returns-clause-finished : goal.returns-clause-finished
returns-clause-finished c = finished_tells

pub returns-clause-cut : goal.returns-clause-cut
returns-clause-cut c = cut_told

pub returns-clause-once : goal.returns-clause-once
returns-clause-once c = sound_once

pub returns-clause-written : goal.returns-clause-written
returns-clause-written c = told_written

pub returns-clause-elsewhere : goal.returns-clause-elsewhere
returns-clause-elsewhere c = elsewhere_told
