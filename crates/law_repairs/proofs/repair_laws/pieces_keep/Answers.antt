use Rattle.law_repairs.proofs.Repair.Listed.{listed_keeps}
use Rattle.law_repairs.proofs.Repair.Pieces.{elsewhere_keeps, reaped_keeps, reserved_keeps}
use Rattle.law_repairs.proofs.repair_laws.pieces_keep.Goals as goal

pub returns-clause-elsewhere : goal.returns-clause-elsewhere
returns-clause-elsewhere c = elsewhere_keeps

pub returns-clause-reserved : goal.returns-clause-reserved
returns-clause-reserved c = reserved_keeps

pub returns-clause-reaped : goal.returns-clause-reaped
returns-clause-reaped c = reaped_keeps

pub returns-clause-listed : goal.returns-clause-listed
returns-clause-listed c = listed_keeps
