use Rattle.law_cuts.proofs.Rebuild.Reaped.{reaped_told}
use Rattle.law_cuts.proofs.rebuild_laws.reaped_stays_told.Goals as goal

pub returns : goal.returns
returns c = record { reaped = reaped_told }
