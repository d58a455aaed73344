-- What a run of calls does to any device, by all that the device tells as one argument.
use Rattle.std.specs.Prelude.{◌≡◌, ◌≤◌, ℕ, ◌+◌}
use Rattle.byte_fields.specs.Steps.{StepCount}
use Rattle.blk_device.specs.Crash.{LeavesOnly, Reached}
use Rattle.blk_device.specs.declared.device.Device.{Ghosts}
use Rattle.blk_device.specs.declared.device.Region.{Region}

-- each block, in either region
abbrev pub EachBlock : Region → ℕ → Type 0
EachBlock r b = Unit {0}

-- a crash at any moment since old leaves what it might have left at old, with other bytes outside of K alone
abbrev pub Keeps : {D : Type 0} (g : Ghosts D) (K : Region → ℕ → Type 0) (old new : D) → Type 0
Keeps g K old new = LeavesOnly g.clock g.may_have_held_since old new (Reached K (g.may_hold_now old))

-- The device was only read: it tells the same, a crash leaves what it might have left before, and
-- its count of reads rose by no more than the blocks that were counted as read.
pub record OnlyRead {D : Type 0} (g : Ghosts D) (old new : D) (before after : StepCount) : Type 0 where
  pub same : g.content new ≡ g.content old
  pub sizes : g.blocks new ≡ g.blocks old
  pub later : g.faults old ≤ g.faults new
  pub crash : Keeps g EachBlock old new
  pub counted : g.reads new + before.reads ≤ g.reads old + after.reads
  pub writes : after.writes ≡ before.writes
  pub moves : after.moves ≡ before.moves

-- The device was told what will be read, and nothing else was asked of it: it tells the same, and a crash
-- leaves what it might have left before.
pub record OnlyTold {D : Type 0} (g : Ghosts D) (old new : D) : Type 0 where
  pub same : g.content new ≡ g.content old
  pub sizes : g.blocks new ≡ g.blocks old
  pub faults : g.faults new ≡ g.faults old
  pub reads : g.reads new ≡ g.reads old
  pub crash : Keeps g EachBlock old new
