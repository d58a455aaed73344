use Rattle.fsck_core.proofs.SafeLemmas.{worked_acts}
use Rattle.fsck_core.proofs.SayLemmas.{put_in}
use Rattle.fsck_core.proofs.groups.run_taken.Goals as goal

pub returns : goal.returns
returns g c = record {
  acted =
      worked_acts g.D.Device c.args.parts.now c.run_among-answer.new.desk c.run_among-answer.new.groups c.put_unit.new.units c.args.unit c.run_among-answer.new.unit c.run_among-answer.result
      c.requires.safe c.requires.unshut c.run_among-answer.ensures.left c.run_among-answer.ensures.told c.put_unit.ensures.put;
  says = record {
    later = c.run_among-answer.new.unit;
    units = put_in c.put_unit.new.units c.args.parts.now.units.items c.run_among-answer.new.unit.group c.args.unit.group c.run_among-answer.new.unit c.put_unit.ensures.put c.run_among-answer.ensures.left.group;
    says = c.run_among-answer.ensures.says;
  };
}
