use Rattle.law_repairs.proofs.Move.Kept.{moves_keep}
use Rattle.law_repairs.proofs.move_laws.moves_keep.Goals as goal

pub returns : goal.returns
returns c = moves_keep
