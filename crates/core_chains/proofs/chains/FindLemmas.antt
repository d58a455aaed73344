-- What reads of files leave of the desk.
use Rattle.std.proofs.Common.{◌≡◌, ◌≤◌, Bool, refl}
use Rattle.blk_cache.specs.declared.cache.BlkCache.{BlkCache}
use Rattle.blk_device.specs.declared.device.Device.{Ghosts}
use Rattle.core_parts.specs.Common.Asks.{IsUsable}
use Rattle.core_parts.specs.Keeps.{IsAsked}
use Rattle.core_parts.specs.declared.desk.Desk.{Desk}
use Rattle.core_edit.specs.Ready.{IsReady}
use Rattle.file_cores.specs.Looks.{Looks}

module _ {D : Type 0} (d : Ghosts D) where
  pub usable_room : (k : Desk D) → IsUsable d k → IsReady d k.store
  usable_room k u = record { room = u.desk.room; agreed = u.desk.agreed u.unshut }

  pub looks_asked : (k : Desk D) (dev : D) (cache : BlkCache) (failed : Bool) → Looks d failed k.store.dev dev cache → IsAsked d failed k (record k { store = record k.store { dev = dev; cache = cache } })
  looks_asked k dev cache failed looks = record {
    geometry = refl;
    sizes = looks.sizes;
    later = looks.later;
    agreed = λ _. looks.agreed;
    rose = looks.rose;
    book = refl;
    drain = refl;
    trees = refl;
  }
