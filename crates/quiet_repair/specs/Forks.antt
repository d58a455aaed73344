-- What a look at all forks keeps, between two events.
use Rattle.std.specs.Prelude.{◌≡◌}
use Rattle.blk_device.specs.declared.device.Device.{Ghosts}
use Rattle.core_parts.specs.Keeps.{IsSteady}
use Rattle.core_parts.specs.Safe.{IsDesk, IsSafe}
use Rattle.core_parts.specs.declared.desk.Desk.{Desk}
use Rattle.core_parts.specs.declared.parts.Parts.{Parts}
use Rattle.fsck_core.specs.Acts.{StaysShut}

-- the desk is safe still, and no entry came; a fault of the device that came is noted
pub record LeavesDesk {D : Type 0} (d : Ghosts D) (old new : Desk D) : Type 0 where
  pub desk : IsDesk d new
  pub steady : IsSteady d old new
  pub items : new.book.journal.items ≡ old.book.journal.items

-- and so are all parts; units and groups stay
pub record LeavesParts {D : Type 0} (d : Ghosts D) (old new : Parts D) : Type 0 where
  pub safe : IsSafe d new
  pub steady : IsSteady d old.desk new.desk
  pub shut : StaysShut old.desk new.desk
  pub items : new.desk.book.journal.items ≡ old.desk.book.journal.items
  pub units : new.units ≡ old.units
  pub groups : new.groups ≡ old.groups
