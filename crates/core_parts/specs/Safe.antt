-- What always holds of the parts of a core, whatever the device's bytes are.
use Rattle.std.specs.Prelude.{◌≡◌, ◌<◌, ◌≤◌, ℕ, List, Option, Some, None, length}
use Rattle.std.specs.List.{slice_get}
use Rattle.blk_cache.specs.Cache.{AgreesTold}
use Rattle.blk_device.specs.Causes.{Rose}
use Rattle.blk_device.specs.declared.device.Device.{Ghosts}
use Rattle.block_reap.specs.Limbo.{IsLimbo}
use Rattle.core_units.specs.Judging.{IsJudging}
use Rattle.core_units.specs.Orderly.{IsOrderly}
use Rattle.core_parts.specs.declared.desk.Desk.{Desk}
use Rattle.core_parts.specs.declared.groups.GroupKept.{GroupKept}
use Rattle.core_parts.specs.declared.parts.Parts.{Parts}
use Rattle.core_parts.specs.declared.units.UnitState.{UnitState}
use Rattle.core_parts.specs.declared.units.Work.{Work}
use Rattle.core_parts.specs.declared.units.Work.TheVariants as works
use Rattle.core_units.specs.Rebuilt.{IsRebuilding, IsReserved}
use Rattle.core_units.specs.Staged.{IsAt}
use Rattle.core_edit.specs.Ready.{HasRoom}
use Rattle.geom.specs.Layout.{Layout}
use Rattle.geom.specs.Places.{layout}
use Rattle.inode_scan.specs.Cursor.{AllInoTrees}
use Rattle.intent_drain.specs.Drains.{gates_of}

-- the device has the blocks that are asked of it; as long as no fault was counted, what is kept of it is so
pub record IsDesk {D : Type 0} (d : Ghosts D) (k : Desk D) : Type 0 where
  pub room : HasRoom d k.store
  pub agreed : k.book.shut ≡ None → AgreesTold k.store.cache (d.content k.store.dev)
  pub later : k.book.begun ≤ d.faults k.store.dev
  pub cause : (n : ℕ) → k.book.shut ≡ Some n → Rose k.book.begun (d.faults k.store.dev)
  pub gates : length (gates_of k.drain) ≡ k.store.geo.agcount
  pub trees : AllInoTrees k.store.geo.agcount k.ino_trees.items

-- what the work on a unit has is fit for what comes next
abbrev pub IsWork : Layout → ℕ → Work → Type 0
IsWork at g (works.Gathering gathered) = IsOrderly at g gathered
IsWork at g (works.Gathered judging) = IsJudging at g judging
IsWork at g (works.Chosen judging) = IsJudging at g judging
IsWork at g (works.Building rebuild) = IsRebuilding at g rebuild
IsWork at g (works.Reserved rebuild staging) = IsReserved at g rebuild × IsAt rebuild.building.lists staging
IsWork at g (works.Staged rebuild staged) = IsRebuilding at g rebuild × IsLimbo staged.limbo.items
IsWork at g (works.Spent rebuild) = IsRebuilding at g rebuild
IsWork at g work = Unit {0}

pub record IsUnit (at : Layout) (u : UnitState) : Type 0 where
  pub inside : u.group < at.agcount
  pub work : IsWork at u.group u.work

abbrev pub IsKept : GroupKept → Type 0
IsKept k = IsLimbo k.limbo.items

-- the open unit of each group is one of that group
abbrev pub AreUnits : Layout → List (Option UnitState) → Type 0
AreUnits at us = (g : ℕ) (u : UnitState) → slice_get us g ≡ Some (Some u) → (u.group ≡ g) × IsUnit at u

abbrev pub AreKept : List GroupKept → Type 0
AreKept ks = (g : ℕ) (k : GroupKept) → slice_get ks g ≡ Some k → IsKept k

-- what is kept of all groups
pub record IsSafe {D : Type 0} (d : Ghosts D) (p : Parts D) : Type 0 where
  pub desk : IsDesk d p.desk
  pub groups : length p.groups.items ≡ p.desk.store.geo.agcount
  pub units : length p.units.items ≡ p.desk.store.geo.agcount
  pub works : AreUnits (layout p.desk.store.geo) p.units.items
  pub limbos : AreKept p.groups.items
