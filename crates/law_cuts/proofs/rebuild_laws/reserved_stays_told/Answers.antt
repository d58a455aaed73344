use Rattle.law_cuts.proofs.Rebuild.Reserved.{listed_told, spare_told, turned_told}
use Rattle.law_cuts.proofs.rebuild_laws.reserved_stays_told.Goals as goal

pub returns-clause-listed : goal.returns-clause-listed
returns-clause-listed c = listed_told

pub returns-clause-turned : goal.returns-clause-turned
returns-clause-turned c = turned_told

pub returns-clause-spare : goal.returns-clause-spare
returns-clause-spare c = spare_told
