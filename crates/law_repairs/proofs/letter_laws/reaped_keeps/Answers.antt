use Rattle.law_repairs.proofs.Letter.Reaped.{reaped_keeps_own}
use Rattle.law_repairs.proofs.letter_laws.reaped_keeps.Goals as goal

pub returns : goal.returns
returns c = reaped_keeps_own
