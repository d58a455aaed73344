-- What opening the gate and installing make of a device while blocks of the image, the set K, aren't synced.
use Rattle.std.specs.Prelude.{ℕ, Bool, Result}
use Rattle.blk_device.specs.declared.device.Device.{Ghosts}
use Rattle.blk_device.specs.declared.device.Region.TheVariants.{Image}
use Rattle.redo_area.specs.Area.{Batch, with_batch}
use Rattle.redo_area.specs.Calls.{LeavesFrom, Reaches}
use Rattle.redo_area.specs.Stages.{AfterBut, BeforeOrAfterBut, Installs, IsReadyBut, IsWaiting, IsWaitingBut, OpensBut}

-- after Ok the batch waits whose table and copies stood there
abbrev pub OpensBeside : {D T E : Type 0} → Ghosts D → D → D → Result T E → Type 0
OpensBeside g old new result =
    (K : ℕ → Bool) (batch : Batch) → Reaches g old new result (IsReadyBut K (g.blocks old Image) batch) (OpensBut K (g.blocks old Image) batch)

-- a crash while the gate is opened leaves the image before, or that with the whole batch
abbrev pub OpeningLeaves : {D : Type 0} → Ghosts D → D → D → Type 0
OpeningLeaves g old new =
    (K : ℕ → Bool) (batch : Batch) → LeavesFrom g old new (IsReadyBut K (g.blocks old Image) batch) (BeforeOrAfterBut K (with_batch batch))

-- after Ok the batch that waited is written in the image, with all blocks synced
abbrev pub InstallsWaiting : {D T E : Type 0} → Ghosts D → Batch → D → D → Result T E → Type 0
InstallsWaiting g batch old new result =
    Reaches g old new result (IsWaiting (g.blocks old Image) batch) (Installs (g.blocks old Image) batch)

-- the same where blocks of the image weren't synced before
abbrev pub InstallsBeside : {D T E : Type 0} → Ghosts D → Batch → D → D → Result T E → Type 0
InstallsBeside g batch old new result =
    (K : ℕ → Bool) → Reaches g old new result (IsWaitingBut K (g.blocks old Image) batch) (Installs (g.blocks old Image) batch)

-- a crash while a batch is installed leaves the image with the whole batch
abbrev pub InstallingLeaves : {D : Type 0} → Ghosts D → Batch → D → D → Type 0
InstallingLeaves g batch old new =
    (K : ℕ → Bool) → LeavesFrom g old new (IsWaitingBut K (g.blocks old Image) batch) (AfterBut K (with_batch batch))
