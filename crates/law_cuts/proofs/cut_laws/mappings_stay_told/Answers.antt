use Rattle.law_cuts.proofs.Cut.Told.{told_behind}
use Rattle.law_cuts.proofs.cut_laws.mappings_stay_told.Goals as goal

pub returns : goal.returns
returns c = record { told = told_behind }
