use Rattle.std.proofs.Common.{◌∙◌, arith}
use Rattle.blk_device.specs.ReadingLaws.{read_on}
use Rattle.blk_device.specs.declared.device.Region.TheVariants.{Image}
use Rattle.geom.specs.Places.{layout}
use Rattle.inode_pass.specs.Notes.{unit_notes}
use Rattle.inode_pass.specs.Units.{unit_numbers}
use Rattle.inode_pass.proofs.CoreLemmas.{spread_on}
use Rattle.inode_pass.proofs.UnitLemmas.{run_more}
use Rattle.inode_pass.proofs.units.see_run.Goals as goal

pub returns-in_err-see_one-clause-reading : goal.returns-in_err-see_one-clause-reading
returns-in_err-see_one-clause-reading g c =
    read_on g.D.Device g.met.D.Device.only_now g.met.D.Device.counts_now c.args.dev.now c.loop-i.dev c.see_one.new.dev c.args.steps.now c.loop-i.steps c.see_one.new.steps c.loop-i.invariant.reading c.in_err-see_one.ensures.reading

pub loop-i-preserved : goal.loop-i-preserved
loop-i-preserved g c = record {
  told = λ m e so. c.in_ok-see_one.ensures.exact m (c.loop-i.invariant.reading.same ∙ e) (c.loop-i.invariant.told m e so);
  units = run_more (unit_numbers c.args.seen.now.items) (unit_numbers c.loop-i.seen.items) (unit_numbers c.see_one.new.seen.items) c.args.run.now.start c.loop-i.i c.loop-i.invariant.units c.in_ok-see_one.ensures.units;
  noted = λ m e. spread_on c.args.notes.now.items c.loop-i.notes.items c.see_one.new.notes.items (unit_notes (layout c.args.geo.now) (m Image) c.args.g) c.args.run.now.start c.loop-i.i (c.loop-i.invariant.noted m e) (c.in_ok-see_one.ensures.noted m (c.loop-i.invariant.reading.same ∙ e));
  fit = λ fit. c.in_ok-see_one.ensures.fit (c.loop-i.invariant.fit fit);
  reading = read_on g.D.Device g.met.D.Device.only_now g.met.D.Device.counts_now c.args.dev.now c.loop-i.dev c.see_one.new.dev c.args.steps.now c.loop-i.steps c.see_one.new.steps c.loop-i.invariant.reading c.in_ok-see_one.ensures.reading;
  calm = c.in_ok-see_one.ensures.cause ∙ c.loop-i.invariant.calm;
  few = let a = c.in_ok-see_one.ensures.few in let b = c.loop-i.invariant.few in omega (arith, a, b);
}
