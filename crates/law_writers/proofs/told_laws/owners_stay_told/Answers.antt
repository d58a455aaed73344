use Rattle.law_writers.proofs.Told.Told.{converted_told, finished_told, mapped_told, others_told, shared_told, unmapped_told}
use Rattle.law_writers.proofs.told_laws.owners_stay_told.Goals as goal

pub returns-clause-mapped : goal.returns-clause-mapped
returns-clause-mapped c = mapped_told

pub returns-clause-unmapped : goal.returns-clause-unmapped
returns-clause-unmapped c = unmapped_told

pub returns-clause-converted : goal.returns-clause-converted
returns-clause-converted c = converted_told

pub returns-clause-shared : goal.returns-clause-shared
returns-clause-shared c = shared_told

pub returns-clause-others : goal.returns-clause-others
returns-clause-others c = others_told

pub returns-clause-finished : goal.returns-clause-finished
returns-clause-finished c = finished_told
