-- A desk with other gates, chains and holds.
use Rattle.std.proofs.Common.{◌≡◌}
use Rattle.std.specs.Prelude.{length}
use Rattle.blk_device.specs.declared.device.Device.{Ghosts}
use Rattle.core_parts.specs.Common.Asks.{IsUsable}
use Rattle.core_parts.specs.declared.desk.Desk.{Desk}
use Rattle.intent_drain.specs.Drains.{gates_of}
use Rattle.intent_drain.specs.declared.drain.Drain.{Drain}

module _ {D : Type 0} (d : Ghosts D) where
  pub drain_usable : (k : Desk D) (drain : Drain) → length (gates_of drain) ≡ k.store.geo.agcount → IsUsable d k → IsUsable d (record k { drain = drain })
  drain_usable k drain gates u = record {
    desk = record {
      room = u.desk.room;
      agreed = u.desk.agreed;
      later = u.desk.later;
      cause = u.desk.cause;
      gates = gates;
      trees = u.desk.trees;
    };
    unshut = u.unshut;
  }
