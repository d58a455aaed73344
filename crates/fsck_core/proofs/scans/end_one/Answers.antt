use Rattle.std.proofs.Common.{refl}
use Rattle.core_calls.specs.declared.answers.Answer.TheVariants as answers
use Rattle.fsck_core.proofs.MoveLemmas.{named_early, other_more, other_move, same_none, told_knows}
use Rattle.fsck_core.proofs.scans.end_one.Goals as goal

pub returns-in-Ok-clause-says : goal.returns-in-Ok-clause-says
returns-in-Ok-clause-says g c = same_none c.args.desk.now c.end_scan.new.desk c.end_scan.ensures.desk

pub returns-in-Err-clause-says : goal.returns-in-Err-clause-says
returns-in-Err-clause-says g c = other_more c.args.desk.now c.end_scan.new.desk c.args.unit.now.group c.args.unit.now.unit c.in-Err.fault c.end_scan.ensures.desk c.in-Err.ensures.may

pub returns-in-Ok-clause-moves : goal.returns-in-Ok-clause-moves
returns-in-Ok-clause-moves g c = record {
  named = named_early c.args.unit.now c.end_scan.new.unit c.end_scan.ensures.rest;
  known = told_knows c.args.desk.now c.end_scan.new.desk c.args.unit.now.group c.args.unit.now.unit answers.End c.args.kept.now c.end_scan.new.kept (same_none c.args.desk.now c.end_scan.new.desk c.end_scan.ensures.desk) c.end_scan.ensures.kept;
  may = tt;
}

pub returns-in-Err-clause-moves : goal.returns-in-Err-clause-moves
returns-in-Err-clause-moves g c = record {
  named = named_early c.args.unit.now c.end_scan.new.unit c.end_scan.ensures.rest;
  known = told_knows c.args.desk.now c.end_scan.new.desk c.args.unit.now.group c.args.unit.now.unit (answers.Scrub c.in-Err.fault) c.args.kept.now c.end_scan.new.kept
      (other_more c.args.desk.now c.end_scan.new.desk c.args.unit.now.group c.args.unit.now.unit c.in-Err.fault c.end_scan.ensures.desk c.in-Err.ensures.may) c.end_scan.ensures.kept;
  may = other_move c.args.unit.now.turns c.in-Err.fault c.in-Err.ensures.may;
}
