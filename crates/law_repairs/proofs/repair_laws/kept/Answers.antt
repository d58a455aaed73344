use Rattle.law_repairs.proofs.Repair.Keeping.{fault_keeps, marked_keeps, none_moves, reply_keeps, verdict_keeps}
use Rattle.law_repairs.proofs.repair_laws.kept.Goals as goal

pub returns-clause-still : goal.returns-clause-still
returns-clause-still c = none_moves

pub returns-clause-marks : goal.returns-clause-marks
returns-clause-marks c = marked_keeps

pub returns-clause-faults : goal.returns-clause-faults
returns-clause-faults c = fault_keeps

pub returns-clause-verdicts : goal.returns-clause-verdicts
returns-clause-verdicts c = verdict_keeps

pub returns-clause-replies : goal.returns-clause-replies
returns-clause-replies c = reply_keeps
