-- Blocks that move between the list, limbo and the trees of the group's own: what is known of each unit stays.
use Rattle.std.specs.Prelude.{◌≡◌, ℕ, ◌^◌, ◌<◌, Bool, true, false, List}
use Rattle.std.specs.List.{list_all}
use Rattle.fs_change.specs.Loose.{Loosely}
use Rattle.fs_model.specs.declared.fault.Counter.TheVariants.{Iblocks, Fblocks, RefcountBlocks}
use Rattle.fs_model.specs.declared.unit.Unit.{Unit as ScrubUnit}
use Rattle.fs_state.specs.State.{State, Group}
use Rattle.geom.specs.Apart.{Splits}
use Rattle.sblock.specs.declared.kind.Kind.{Kind}
use Rattle.sblock.specs.declared.kind.Kind.TheVariants.{Bno, Cnt, Rmap, Refc, Ino, Fino}
use Rattle.law_repairs.specs.Repair.Letters.{Holds}
use Rattle.law_repairs.specs.Move.Order.{AreBlocks}

-- trees whose blocks have the owner of the list's
abbrev pub is_own : Kind → Bool
is_own Bno = true
is_own Cnt = true
is_own Rmap = true
is_own Refc = false
is_own Ino = false
is_own Fino = false

-- the counters of blocks of the other trees are words
pub record AreBlockWords (p : Group) : Type 0 where
  pub ino : p.counters Iblocks < 2 ^ 32
  pub fino : p.counters Fblocks < 2 ^ 32
  pub refc : p.counters RefcountBlocks < 2 ^ 32

-- an entry that decides x and edits such trees alone leaves what holds in x, however it cuts them into blocks
abbrev pub MovesKeep : Type 0
MovesKeep = (a x b : State) (g : ℕ) (left ks : List Kind) (unit : ScrubUnit) → Splits x.geometry → list_all is_own ks ≡ true
    → AreBlockWords (x.group g) → AreBlocks (x.group g) → AreBlocks (b.group g) → Loosely g left ks a x b → Holds x g unit → Holds b g unit
