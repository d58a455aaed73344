-- What searches in a group's btrees leave of the desk.
use Rattle.std.proofs.Common.{◌≡◌, ℕ, Bool, true, false}
use Rattle.std.proofs.lemmas.Bool.{false≢true}
use Rattle.std.specs.Prelude.{Result, Ok, Err}
use Rattle.blk_cache.specs.Cache.{AgreesTold}
use Rattle.blk_device.specs.Causes.{HasCause, MovesOnly, Rose}
use Rattle.blk_device.specs.Reading.{OnlyRead}
use Rattle.blk_device.specs.declared.device.Device.{Ghosts}
use Rattle.byte_fields.specs.Steps.{StepCount}
use Rattle.core_parts.specs.Keeps.{IsAsked, failed_by}
use Rattle.core_parts.specs.declared.desk.Desk.{Desk}

moves_rose : (t : Bool) (before now : ℕ) → MovesOnly t before now → t ≡ true → Rose before now
moves_rose true before now moves told = moves.1
moves_rose false before now moves told = absurd (false≢true told)

cause_rose : {T E : Type 0} (is_devices : E → Bool) (before now : ℕ) (result : Result T E) → HasCause is_devices before now result → failed_by is_devices result ≡ true → Rose before now
cause_rose is_devices before now (Ok x) cause told = absurd (false≢true told)
cause_rose is_devices before now (Err e) cause told = moves_rose (is_devices e) before now cause told

module _ {D : Type 0} (d : Ghosts D) where
  pub read_asked : {T E : Type 0} (is_devices : E → Bool) (result : Result T E) (old new : Desk D) (before after : StepCount) → OnlyRead d old.store.dev new.store.dev before after → HasCause is_devices (d.faults old.store.dev) (d.faults new.store.dev) result
      → AgreesTold new.store.cache (d.content new.store.dev) → new.store.geo ≡ old.store.geo → new.book ≡ old.book → new.drain ≡ old.drain → new.ino_trees ≡ old.ino_trees → IsAsked d (failed_by is_devices result) old new
  read_asked is_devices result old new before after read cause agrees geometry book drain trees = record {
    geometry = geometry;
    sizes = read.sizes;
    later = read.later;
    agreed = λ _. agrees;
    rose = cause_rose is_devices (d.faults old.store.dev) (d.faults new.store.dev) result cause;
    book = book;
    drain = drain;
    trees = trees;
  }
