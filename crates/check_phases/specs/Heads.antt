-- How heads that are refused, or that can't be read, end a check.
use Rattle.std.specs.Prelude.{◌≡◌, ℕ, List, Option, Some}
use Rattle.blk_device.specs.Contents.{Contents}
use Rattle.blk_device.specs.declared.device.Region.TheVariants.{Image}
use Rattle.geom.specs.Layout.{Layout}
use Rattle.group_trees.specs.declared.accept.HeadsStop.{HeadsStop}
use Rattle.group_trees.specs.declared.accept.HeadsStop.TheVariants as stops
use Rattle.group_trees.specs.declared.heads.GroupHeads.{GroupHeads}
use Rattle.space_check.specs.Progress.{IsOutside}
use Rattle.space_check.specs.declared.halt.Halt.{Halt}
use Rattle.space_check.specs.declared.halt.Halt.TheVariants as halts
use Rattle.check_phases.specs.Checks.{AreHeads}

-- the head of this group that is refused ends it, or the device failed or there was no memory
abbrev pub StopsAtHead : ℕ → HeadsStop → Halt → Type 0
StopsAtHead g (stops.Refused head fault) halt = halt ≡ halts.Head g head fault
StopsAtHead g stops.Failed halt = IsOutside halt
StopsAtHead g stops.Memory halt = IsOutside halt

-- where the heads so far are the image's, those with one more are
abbrev pub HeadsGrow : Layout → Option Contents → (before now : List GroupHeads) → Type 0
HeadsGrow at told before now = (c : Contents) → told ≡ Some c → AreHeads at (c Image) 0 before → AreHeads at (c Image) 0 now
