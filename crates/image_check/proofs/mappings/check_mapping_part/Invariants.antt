use Rattle.std.proofs.Common.{◌≡◌, ◌-◌, ◌≤◌, ℕ, length, Ok, Some}
use Rattle.blk_device.specs.Contents.{Contents}
use Rattle.blk_device.specs.Reading.{OnlyRead}
use Rattle.blk_device.specs.declared.device.Region.TheVariants.{Image}
use Rattle.geom.specs.Places.{layout}
use Rattle.inode_pass.specs.Units.{opened_state}
use Rattle.check_phases.specs.Checks.{ChecksPhase}
use Rattle.check_phases.specs.Parts.{AddsGroups}
use Rattle.check_phases.specs.Phases.{Mappings, lacks_nothing}
use Rattle.fork_pass.specs.Sets.{pieces_at}
use Rattle.image_check.specs.Units.{IsMappingPart}
use Rattle.check_phases.specs.Kept.{KeepsTold}
use Rattle.image_check.specs.Kept.{mappings_kept}
use Rattle.image_check.proofs.mappings.check_mapping_part.Given as goal

-- the units of the groups so far were done, and the sets of the others are as they were
abbrev pub invariant-loop-g : goal.invariant-loop-g
invariant-loop-g g l = record {
  exact : (c : Contents) → g.D.Device.content l.fn.dev ≡ Some c → ChecksPhase {T = Unit {0}} (opened_state (layout l.geo) (c Image)) Mappings lacks_nothing l.fn.part.from (l.g - l.fn.part.from) l.fn.tally l.tally (Ok tt);
  added : AddsGroups {T = Unit {0}} IsMappingPart l.fn.part.from (l.g - l.fn.part.from) l.fn.tally l.tally (Ok tt);
  others : (h : ℕ) → l.g ≤ h → pieces_at l.sets h ≡ pieces_at l.fn.sets h;
  groups : length l.sets ≡ length l.fn.sets;
  kept : KeepsTold {T = Unit {0}} (g.D.Device.content l.fn.dev) (mappings_kept (layout l.geo) l.fn.part.from (l.g - l.fn.part.from)) l.fn.tally l.fn.steps.reads l.tally l.steps.reads (Ok tt);
  reading : OnlyRead g.D.Device l.fn.dev l.dev l.fn.steps l.steps;
  calm : g.D.Device.faults l.dev ≡ g.D.Device.faults l.fn.dev;
}
