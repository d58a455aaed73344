-- What every event keeps.
use Rattle.std.specs.Prelude.{◌≡◌, ◌++◌, ◌≤◌, Bool, true, false, List, Result, Ok, Err, None, length}
use Rattle.blk_cache.specs.Cache.{AgreesTold}
use Rattle.blk_device.specs.Causes.{Rose}
use Rattle.blk_device.specs.declared.device.Device.{Ghosts}
use Rattle.core_edit.specs.Ready.{HasRoom}
use Rattle.fs_model.specs.declared.entry.Entry.{Entry}
use Rattle.geom.specs.Places.{layout}
use Rattle.inode_scan.specs.Cursor.{AllInoTrees}
use Rattle.intent_drain.specs.Drains.{gates_of}
use Rattle.core_parts.specs.Safe.{IsDesk, IsKept, IsUnit}
use Rattle.core_parts.specs.declared.desk.Desk.{Desk}
use Rattle.core_parts.specs.declared.groups.GroupKept.{GroupKept}
use Rattle.core_parts.specs.declared.units.UnitState.{UnitState}

-- The geometry and the sizes stay, the count of faults doesn't fall, and the journal is longer by
-- some entries.
pub record IsSteady {D : Type 0} (d : Ghosts D) (old new : Desk D) : Type 0 where
  pub geometry : new.store.geo ≡ old.store.geo
  pub sizes : d.blocks new.store.dev ≡ d.blocks old.store.dev
  pub later : d.faults old.store.dev ≤ d.faults new.store.dev
  pub begun : new.book.begun ≡ old.book.begun
  pub added : List Entry
  pub journal : new.book.journal.items ≡ old.book.journal.items ++ added

-- what an event of an open unit is given, while no fault of the device was counted
pub record IsGiven {D : Type 0} (d : Ghosts D) (k : Desk D) (p : GroupKept) (u : UnitState) : Type 0 where
  pub desk : IsDesk d k
  pub unshut : k.book.shut ≡ None
  pub kept : IsKept p
  pub unit : IsUnit (layout k.store.geo) u

-- and what it leaves
pub record IsLeft {D : Type 0} (d : Ghosts D) (old new : Desk D) (p : GroupKept) (was u : UnitState) : Type 0 where
  pub desk : IsDesk d new
  pub steady : IsSteady d old new
  pub kept : IsKept p
  pub unit : IsUnit (layout new.store.geo) u
  pub group : u.group ≡ was.group

-- ---- one call on the device

-- whether a call failed by the device
abbrev pub failed_by : {T E : Type 0} → (E → Bool) → Result T E → Bool
failed_by is_failed (Ok answer) = false
failed_by is_failed (Err error) = is_failed error

-- What a call on the device leaves: all but the device, its cache and its edit stay, what is kept of it is so unless it
-- failed, and then its count of faults rose.
pub record IsAsked {D : Type 0} (d : Ghosts D) (failed : Bool) (old new : Desk D) : Type 0 where
  pub geometry : new.store.geo ≡ old.store.geo
  pub sizes : d.blocks new.store.dev ≡ d.blocks old.store.dev
  pub later : d.faults old.store.dev ≤ d.faults new.store.dev
  pub agreed : failed ≡ false → AgreesTold new.store.cache (d.content new.store.dev)
  pub rose : failed ≡ true → Rose (d.faults old.store.dev) (d.faults new.store.dev)
  pub book : new.book ≡ old.book
  pub drain : new.drain ≡ old.drain
  pub trees : new.ino_trees ≡ old.ino_trees

-- a fault was counted since the core was opened, and not yet noted
pub record IsShaken {D : Type 0} (d : Ghosts D) (k : Desk D) : Type 0 where
  pub room : HasRoom d k.store
  pub later : k.book.begun ≤ d.faults k.store.dev
  pub rose : Rose k.book.begun (d.faults k.store.dev)
  pub gates : length (gates_of k.drain) ≡ k.store.geo.agcount
  pub trees : AllInoTrees k.store.geo.agcount k.ino_trees.items
