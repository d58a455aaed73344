-- Why a session stops, and what each of its turns keeps.
use Rattle.std.specs.Prelude.{◌≡◌, ◌<◌, ℕ, Option, Some, None, ⊤}
use Rattle.blk_device.specs.declared.device.Device.{Ghosts}
use Rattle.core_calls.specs.declared.answers.ScrubFault.{ScrubFault}
use Rattle.core_parts.specs.Keeps.{IsSteady}
use Rattle.core_parts.specs.Reasons.{HasReason}
use Rattle.core_parts.specs.Safe.{IsSafe}
use Rattle.core_parts.specs.declared.desk.Desk.{Desk}
use Rattle.core_parts.specs.declared.parts.Parts.{Parts}
use Rattle.quiet_repair.specs.declared.sessions.End.{End}
use Rattle.scrub_order.specs.declared.order.Order.{Order}

-- a stop has its reason, if there is one
abbrev pub IsStopped : {D : Type 0} → Desk D → Option ScrubFault → Type 0
IsStopped k None = ⊤
IsStopped k (Some fault) = HasReason k fault

abbrev pub EndsFor : {D : Type 0} → Desk D → Option End → Type 0
EndsFor k None = ⊤
EndsFor k (Some end) = IsStopped k end.stop

-- the order is one of so many groups, and its group is one of them
pub record IsInside (n : ℕ) (o : Order) : Type 0 where
  pub groups : o.groups ≡ n
  pub group : o.group < n

-- what holds of a session between two events
pub record Stands {D : Type 0} (k : Desk D) (o : Order) : Type 0 where
  pub stopped : IsStopped k o.stop
  pub inside : IsInside k.store.geo.agcount o

-- what a turn keeps
pub record GoesOn {D : Type 0} (d : Ghosts D) (old new : Parts D) (o : Order) : Type 0 where
  pub safe : IsSafe d new
  pub steady : IsSteady d old.desk new.desk
  pub stands : Stands new.desk o
