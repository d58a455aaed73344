use Rattle.std.proofs.Common.{◌≡◌, ◌-◌, Ok, Some}
use Rattle.blk_device.specs.Contents.{Contents}
use Rattle.blk_device.specs.Reading.{OnlyRead}
use Rattle.blk_device.specs.declared.device.Region.TheVariants.{Image}
use Rattle.geom.specs.Places.{layout}
use Rattle.inode_pass.specs.Units.{opened_state}
use Rattle.check_phases.specs.Checks.{ChecksPhase}
use Rattle.check_phases.proofs.KeptToldLemmas.{groups_of}
use Rattle.check_phases.specs.InodesKept.{PutsInodes}
use Rattle.check_phases.specs.Kept.{KeepsTold, most_in}
use Rattle.check_phases.specs.Parts.{AddsGroups, IsInodePart}
use Rattle.check_phases.specs.Phases.{Inodes, lacks_nothing}
use Rattle.check_phases.proofs.part.check_inode_part.Given as goal

-- the units of the groups so far were done
abbrev pub invariant-loop-g : goal.invariant-loop-g
invariant-loop-g g l = record {
  exact : (c : Contents) → g.D.Device.content l.fn.dev ≡ Some c → ChecksPhase {T = Unit {0}} (opened_state (layout l.geo) (c Image)) Inodes lacks_nothing l.fn.part.from (l.g - l.fn.part.from) l.fn.tally l.tally (Ok tt);
  added : AddsGroups {T = Unit {0}} IsInodePart l.fn.part.from (l.g - l.fn.part.from) l.fn.tally l.tally (Ok tt);
  kept : KeepsTold {T = Unit {0}} (g.D.Device.content l.fn.dev) (groups_of (most_in (layout l.geo)) (layout l.geo) Inodes lacks_nothing l.fn.part.from (l.g - l.fn.part.from)) l.fn.tally l.fn.steps.reads l.tally l.steps.reads (Ok tt);
  inodes : PutsInodes (layout l.geo) (g.D.Device.content l.fn.dev) l.fn.part.from (l.g - l.fn.part.from) l.fn.tally.inodes.items l.tally.inodes.items;
  reading : OnlyRead g.D.Device l.fn.dev l.dev l.fn.steps l.steps;
  calm : g.D.Device.faults l.dev ≡ g.D.Device.faults l.fn.dev;
}
