-- What a call makes of a device, by the stage that its contents were at.
use Rattle.std.specs.Prelude.{ℕ, Result, IfSome, OnOk}
use Rattle.blk_device.specs.Contents.{Contents, Becomes}
use Rattle.blk_device.specs.Crash.{LeavesOnly}
use Rattle.blk_device.specs.declared.device.Device.{Ghosts}
use Rattle.blk_device.specs.declared.device.Region.TheVariants.{Image}
use Rattle.redo_area.specs.Area.{Blocks}

-- contents that were at the first stage are at the second after Ok
abbrev pub Reaches : {D T E : Type 0} → Ghosts D → D → D → Result T E → ((Contents → Type 0) → Contents → Type 0) → ((Contents → Type 0) → Contents → Contents → Type 0) → Type 0
Reaches g old new result First Second =
    IfSome (g.content old) (First (g.may_hold_now old)) → OnOk result (Becomes (g.content old) (g.content new) (Second (g.may_hold_now new)))

-- a crash at any moment of the call leaves contents with P
abbrev pub Leaves : {D : Type 0} → Ghosts D → D → D → (Contents → Type 0) → Type 0
Leaves g old new P = LeavesOnly g.clock g.may_have_held_since old new P

-- where the contents were at this stage, a crash at any moment of the call leaves contents of which P holds, by the
-- image's size and the image before
abbrev pub LeavesFrom : {D : Type 0} → Ghosts D → D → D → ((Contents → Type 0) → Contents → Type 0) → (ℕ → Blocks → Contents → Type 0) → Type 0
LeavesFrom g old new Stage P = IfSome (g.content old) (λ m. Stage (g.may_hold_now old) m → Leaves g old new (P (g.blocks old Image) (m Image)))
