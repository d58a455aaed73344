use Rattle.std.proofs.Common.{◌/◌}
use Rattle.blk_device.specs.ReadingLaws.{told_self}
use Rattle.geom.specs.Layout.{group_len_of}
use Rattle.geom.specs.Places.{layout}
use Rattle.run_sets.specs.declared.run.Run.{Run}
use Rattle.inode_pass.proofs.UnitLemmas.{run_within}
use Rattle.inode_pass.proofs.ahead.tell_next.Goals as goal

-- what a place past the end reads as
abbrev none : Run
none = record { start = 0; count = 0 }

pub tell_run-requires-clause-inside : goal.tell_run-requires-clause-inside
tell_run-requires-clause-inside g c = run_within (group_len_of (layout c.args.geo.now) c.args.g / 8) c.args.units.now c.args.told.now none c.if-told-units.true c.requires.inside

pub returns-else-told-units : goal.returns-else-told-units
returns-else-told-units g c = told_self g.D.Device g.met.D.Device.only_now g.met.D.Device.counts_now c.args.dev.now
