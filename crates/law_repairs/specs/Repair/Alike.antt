-- States that differ in trust alone, and in what nobody reads: cores outside of chunks, and forks that can't be read.
use Rattle.std.specs.Prelude.{◌≡◌, ◌<◌, ℕ, true}
use Rattle.dinode_core.specs.declared.mapping.Fork.{Fork}
use Rattle.fs_state.specs.Chunks.{inodes}
use Rattle.fs_state.specs.Claims.{claims}
use Rattle.fs_state.specs.Derive.{derive}
use Rattle.fs_state.specs.Faults.{wanted}
use Rattle.fs_state.specs.Records.{kinds_of, counters_of}
use Rattle.fs_state.specs.Laws.{EachCounter, EachTree, IsGood}
use Rattle.fs_model.specs.declared.fault.Counter.{Counter}
use Rattle.fs_model.specs.declared.unit.Unit.{Unit as ScrubUnit}
use Rattle.fs_state.specs.Apart.{is_chunk, is_inode}
use Rattle.fs_state.specs.Frame.{SameFork}
use Rattle.fs_state.specs.State.{State, Group}
use Rattle.geom.specs.Apart.{Splits}
use Rattle.sblock.specs.declared.kind.Kind.{Kind}
use Rattle.tree_defs.specs.Lists.{In}

-- ---- what one unit is judged by

-- the tree holds the same records in the same blocks, and should hold the same
pub record SameTree (a b : State) (g : ℕ) (k : Kind) : Type 0 where
  pub reading : ((b.group g).tree k).reading ≡ ((a.group g).tree k).reading
  pub derived : derive b g k ≡ derive a g k

-- the counter is the same, and should be the same
pub record SameCounter (a b : State) (g : ℕ) (name : Counter) : Type 0 where
  pub kept : (b.group g).counters name ≡ (a.group g).counters name
  pub wanted_same : wanted b g name ≡ wanted a g name

-- so a unit of which all this is the same stays good
abbrev pub GoodStays : Type 0
GoodStays = (a b : State) (g : ℕ) (unit : ScrubUnit) → EachTree (SameTree a b g) (kinds_of unit) → EachCounter (SameCounter a b g) (counters_of unit) → IsGood a g unit → IsGood b g unit

-- ---- whole states

-- the chunks with the cores and forks of their inodes
pub record AlikeInodes (a b : State) : Type 0 where
  pub geometry : b.geometry ≡ a.geometry
  pub chunks : (g u : ℕ) → is_chunk b g u ≡ is_chunk a g u
  pub cores : (ino : ℕ) → is_inode a ino ≡ true → b.core ino ≡ a.core ino
  pub forks : (ino : ℕ) (f : Fork) → In ino (inodes a) → SameFork (a.fork ino f) (b.fork ino f)

-- what a group holds, its trust aside
pub record AlikeGroup (p q : Group) : Type 0 where
  pub list : q.free_list ≡ p.free_list
  pub counters : q.counters ≡ p.counters
  pub reading : (k : Kind) → (q.tree k).reading ≡ (p.tree k).reading
  pub reserve : q.reserve ≡ p.reserve
  pub limbo : q.limbo ≡ p.limbo

pub record Alike (a b : State) : Type 0 where
  pub inodes : AlikeInodes a b
  pub groups : (g : ℕ) → AlikeGroup (a.group g) (b.group g)

-- the same of the groups that the image has: what stands at a number behind them nobody reads
pub record AlikeInside (a b : State) : Type 0 where
  pub inodes : AlikeInodes a b
  pub groups : (g : ℕ) → g < a.geometry.agcount → AlikeGroup (a.group g) (b.group g)

pub record SameDerived (a b : State) (g : ℕ) : Type 0 where
  pub claimed : claims b g ≡ claims a g
  pub derived : (k : Kind) → derive b g k ≡ derive a g k
  pub counted : (name : Counter) → wanted b g name ≡ wanted a g name
  pub good : (unit : ScrubUnit) → IsGood a g unit → IsGood b g unit

-- alike groups of states with the same inodes have the same claims, derivations and faults
abbrev pub AlikeLaw : Type 0
AlikeLaw = (a b : State) (g : ℕ) → Splits a.geometry → AlikeInodes a b → AlikeGroup (a.group g) (b.group g) → SameDerived a b g
