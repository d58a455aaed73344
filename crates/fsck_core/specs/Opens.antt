-- What opening a device makes of it, and what comes back where it isn't opened.
use Rattle.std.specs.Prelude.{◌≡◌, ℕ, [], List, ◌∷◌, Option, Some, None, length}
use Rattle.blk_device.specs.Causes.{MovesOnly}
use Rattle.blk_device.specs.declared.device.Device.{Ghosts}
use Rattle.core_calls.specs.declared.answers.OpenRefused.{OpenRefused}
use Rattle.blk_device.specs.Contents.{Contents}
use Rattle.blk_device.specs.declared.device.Region.TheVariants.{Image}
use Rattle.core_parts.specs.Opens.Heads.{IsFirstRefused, is_failed}
use Rattle.core_parts.specs.Safe.{AreKept}
use Rattle.core_parts.specs.declared.parts.Parts.{Parts}
use Rattle.core_parts.specs.declared.units.UnitState.{UnitState}
use Rattle.fsck_core.specs.declared.opened.Beside.{Beside}
use Rattle.geom.specs.Places.{layout}
use Rattle.geom.specs.declared.geometry.Geometry.{Geometry}
use Rattle.inode_scan.specs.Cursor.{AllInoTrees}
use Rattle.intent_drain.specs.Drains.{gates_of}
use Rattle.unit_trust.specs.Laws.{AllFresh}

-- the device tells what it told, and no fault was counted; the journal is empty, and no unit has passed
pub record IsBegun {D : Type 0} (d : Ghosts D) (dev : D) (geo : Geometry) (p : Parts D) : Type 0 where
  pub geometry : p.desk.store.geo ≡ geo
  pub same : d.content p.desk.store.dev ≡ d.content dev
  pub sizes : d.blocks p.desk.store.dev ≡ d.blocks dev
  pub calm : d.faults p.desk.store.dev ≡ d.faults dev
  pub begun : p.desk.book.begun ≡ d.faults dev
  pub journal : p.desk.book.journal.items ≡ []
  pub shut : p.desk.book.shut ≡ None
  pub fresh : AllFresh p.groups.items

-- the first head that is refused, in the groups' order, where the device tells it
abbrev pub RefusesFirst : Option Contents → Geometry → OpenRefused → Type 0
RefusesFirst content geo why = (c : Contents) → content ≡ Some c → IsFirstRefused (layout geo) (c Image) why

-- the device that comes back tells what it told; its count of faults moved only where it failed, and a head is refused
pub record IsBack {D : Type 0} (d : Ghosts D) (dev : D) (geo : Geometry) (back : D × OpenRefused) : Type 0 where
  pub same : d.content back.0 ≡ d.content dev
  pub sizes : d.blocks back.0 ≡ d.blocks dev
  pub refused : RefusesFirst (d.content dev) geo back.1
  pub cause : MovesOnly (is_failed back.1) (d.faults dev) (d.faults back.0)

-- no unit is open
abbrev pub NoneOpen : List (Option UnitState) → Type 0
NoneOpen [] = Unit {0}
NoneOpen (None ∷ us) = NoneOpen us
NoneOpen (Some u ∷ us) = ⊥

-- what there is beside the store, for so many groups: no unit is open, and nothing is in limbo that isn't in order
pub record AreBeside (n : ℕ) (b : Beside) : Type 0 where
  pub groups : length b.groups.items ≡ n
  pub kept : AreKept b.groups.items
  pub fresh : AllFresh b.groups.items
  pub units : length b.units.items ≡ n
  pub none : NoneOpen b.units.items
  pub gates : length (gates_of b.drain) ≡ n
  pub trees : AllInoTrees n b.trees.items
