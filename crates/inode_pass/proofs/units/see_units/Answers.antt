use Rattle.std.proofs.Common.{rules, ◌∙◌, ◌/◌, ◌++◌, arith}
use Rattle.blk_device.specs.ReadingLaws.{only_told, read_on, told_read}
use Rattle.geom.specs.Layout.{group_len_of}
use Rattle.geom.specs.Places.{layout}
use Rattle.run_sets.specs.declared.run.Run.{Run}
use Rattle.blk_device.specs.declared.device.Region.TheVariants.{Image}
use Rattle.inode_pass.specs.Notes.{notes_of, unit_notes}
use Rattle.inode_pass.specs.Units.{unit_numbers, units_in}
use Rattle.inode_pass.proofs.NoteLemmas.{noted_none_left, noted_runs_more}
use Rattle.inode_pass.proofs.UnitLemmas.{count_front, run_within, runs_more}
use Rattle.inode_pass.proofs.units.see_units.Goals as goal

-- what a place past the end reads as
abbrev none : Run
none = record { start = 0; count = 0 }

pub loop-run-init : goal.loop-run-init
loop-run-init g c = record {
  told = λ m e. search rules;
  units = search rules;
  noted = λ m e. search rules;
  fit = λ fit. fit;
  reading = only_told g.D.Device g.met.D.Device.only_now g.met.D.Device.counts_now c.args.dev.now c.tell_first-told.new.dev c.args.steps.now c.tell_first-told.ensures;
  calm = c.tell_first-told.ensures.faults;
  few = omega arith;
}

pub see_run-requires-clause-inside : goal.see_run-requires-clause-inside
see_run-requires-clause-inside g c = run_within (group_len_of (layout c.args.geo.now) c.args.g / 8) c.args.units.now c.loop-run.run-index none c.loop-run-test.true c.requires.inside

pub returns-in_err-see_run-clause-reading : goal.returns-in_err-see_run-clause-reading
returns-in_err-see_run-clause-reading g c =
    read_on g.D.Device g.met.D.Device.only_now g.met.D.Device.counts_now c.args.dev.now c.loop-run.dev c.see_run.new.dev c.args.steps.now c.loop-run.steps c.see_run.new.steps c.loop-run.invariant.reading
    (told_read g.D.Device g.met.D.Device.only_now g.met.D.Device.counts_now c.loop-run.dev c.tell_next.new.dev c.see_run.new.dev c.loop-run.steps c.see_run.new.steps c.tell_next.ensures c.in_err-see_run.ensures.reading)

pub loop-run-preserved : goal.loop-run-preserved
loop-run-preserved g c = record {
  told = λ m e. c.in_ok-see_run.ensures.exact m (c.tell_next.ensures.same ∙ c.loop-run.invariant.reading.same ∙ e) (c.loop-run.invariant.told m e);
  units = runs_more (unit_numbers c.loop-run.seen.items) (unit_numbers c.see_run.new.seen.items) (units_in c.args.units.now) c.args.units.now c.loop-run.run-index none c.loop-run-test.true c.in_ok-see_run.ensures.units c.loop-run.invariant.units;
  noted = λ m e.
      noted_runs_more (unit_notes (layout c.args.geo.now) (m Image) c.args.g) c.loop-run.notes.items c.see_run.new.notes.items (c.args.notes.now.items ++ notes_of (layout c.args.geo.now) (m Image) c.args.g (units_in c.args.units.now)) c.args.units.now c.loop-run.run-index none c.loop-run-test.true
      (c.in_ok-see_run.ensures.noted m (c.tell_next.ensures.same ∙ c.loop-run.invariant.reading.same ∙ e)) (c.loop-run.invariant.noted m e);
  fit = λ fit. c.in_ok-see_run.ensures.fit (c.loop-run.invariant.fit fit);
  reading =
      read_on g.D.Device g.met.D.Device.only_now g.met.D.Device.counts_now c.args.dev.now c.loop-run.dev c.see_run.new.dev c.args.steps.now c.loop-run.steps c.see_run.new.steps c.loop-run.invariant.reading
      (told_read g.D.Device g.met.D.Device.only_now g.met.D.Device.counts_now c.loop-run.dev c.tell_next.new.dev c.see_run.new.dev c.loop-run.steps c.see_run.new.steps c.tell_next.ensures c.in_ok-see_run.ensures.reading);
  calm = c.in_ok-see_run.ensures.cause ∙ c.tell_next.ensures.faults ∙ c.loop-run.invariant.calm;
  few = let a = c.in_ok-see_run.ensures.few in let b = c.loop-run.invariant.few in let f = count_front c.args.units.now c.loop-run.run-index none c.loop-run-test.true in omega (arith, a, b, f);
}

pub returns-clause-noted : goal.returns-clause-noted
returns-clause-noted g c = λ m e.
    noted_none_left (unit_notes (layout c.args.geo.now) (m Image) c.args.g) c.loop-run.notes.items (c.args.notes.now.items ++ notes_of (layout c.args.geo.now) (m Image) c.args.g (units_in c.args.units.now)) c.args.units.now c.loop-run.run-index c.loop-run-test.false (c.loop-run.invariant.noted m e)
