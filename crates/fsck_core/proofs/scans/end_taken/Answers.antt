use Rattle.fsck_core.proofs.SafeLemmas.{worked_acts}
use Rattle.fsck_core.proofs.SayLemmas.{put_in}
use Rattle.fsck_core.proofs.scans.end_taken.Goals as goal

pub returns : goal.returns
returns g c = record {
  acted =
      worked_acts g.D.Device c.args.parts.now c.end_among-answer.new.desk c.end_among-answer.new.groups c.put_unit.new.units c.args.unit c.end_among-answer.new.unit c.end_among-answer.result
      c.requires.safe c.requires.unshut c.end_among-answer.ensures.left c.end_among-answer.ensures.told c.put_unit.ensures.put;
  desk = c.end_among-answer.ensures.desk;
  says = record {
    later = c.end_among-answer.new.unit;
    units = put_in c.put_unit.new.units c.args.parts.now.units.items c.end_among-answer.new.unit.group c.args.unit.group c.end_among-answer.new.unit c.put_unit.ensures.put c.end_among-answer.ensures.left.group;
    says = c.end_among-answer.ensures.says;
  };
}
