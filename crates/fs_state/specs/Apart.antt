-- Which part of the metadata has which block of the device? And the two invariants that no block is taken twice: no
-- block of metadata has a second claim, and such a block that looks free, or that a fork maps, has a reverse mapping.
use Rattle.std.specs.Prelude.{◌≡◌, ℕ, ◌+◌, ◌*◌, ◌/◌, ◌<◌, ◌==◌, ◌⊎◌, nat_lt, nat_le, Bool, true, false, not, ◌&&◌, ◌||◌, List, [], ◌∷◌, Option, None, Some, Result, Ok, Err}
use Rattle.std.specs.List.{list_any}
use Rattle.byte_fields.specs.Below.{all_below}
use Rattle.geom.specs.Layout.{Layout, device_block_of, split_of, group_len_of}
use Rattle.geom.specs.declared.geometry.Run3.{Run3}
use Rattle.sblock.specs.declared.kind.Kind.{Kind}
use Rattle.sblock.specs.declared.kind.Kind.TheVariants.{Rmap, Ino, Bno}
use Rattle.span_recs.specs.declared.span.SpanRec.{SpanRec}
use Rattle.rmap_recs.specs.Words.{is_fork_data}
use Rattle.rmap_recs.specs.declared.records.RmapRec.{RmapRec}
use Rattle.dinode_core.specs.declared.mapping.Fork.{Fork}
use Rattle.dinode_core.specs.declared.mapping.ForkFault.{ForkFault}
use Rattle.dinode_core.specs.declared.mapping.Mapping.{Mapping}
use Rattle.dinode_core.specs.Frame.{device_at, Lies}
pub use Rattle.tree_defs.specs.Lists.{In}
use Rattle.geom.specs.Layout.{inode_at}
use Rattle.fs_state.specs.declared.intent.Intent.{Intent}
use Rattle.fs_state.specs.declared.intent.IntentKind.{IntentKind}
use Rattle.fs_state.specs.declared.intent.IntentKind.TheVariants.{RmapAdd, RmapRemove, RmapChange, RefMore, RefLess, Free}
use Rattle.fs_state.specs.State.{State, ForkList, Owned, CoreState, Broken, Whole, recs_of, blocks_of}

-- one thing that claims blocks
pub data Part : Type 0 where
  HeadsOf : (g : ℕ) → Part
  LogPart : Part
  ListOf : (g : ℕ) → Part
  TreeOf : (g : ℕ) (k : Kind) → Part
  ReserveOf : (g : ℕ) → Part
  LimboOf : (g : ℕ) → Part
  ChunkAt : (d : ℕ) → Part
  ForkTreeOf : (ino : ℕ) (f : Fork) → Part

abbrev pub InOwned : ℕ → List Owned → Type 0
InOwned p [] = ⊥
InOwned p (q ∷ qs) = (q.block ≡ p) ⊎ InOwned p qs

abbrev pub InFork : Layout → Result ForkList ForkFault → ℕ → Type 0
InFork at (Ok list) d = Lies at list.blocks d
InFork at (Err fault) d = ⊥

-- one of these mappings has this block of the device
abbrev pub Maps : Layout → List Mapping → ℕ → Type 0
Maps at [] d = ⊥
Maps at (m ∷ ms) d = ((i : ℕ) × (i < m.count) × (device_at at (split_of at (m.block + i)) ≡ Some d)) ⊎ Maps at ms d

abbrev pub InData : Layout → Result ForkList ForkFault → ℕ → Type 0
InData at (Ok list) d = Maps at list.mappings d
InData at (Err fault) d = ⊥

-- the core verifies
abbrev pub verifies : Option CoreState → Bool
verifies None = false
verifies (Some (Broken fault)) = false
verifies (Some (Whole inode)) = true

-- the Ino tree lists the unit of 64 inodes from block 8 u on, or the Rmap tree gives each of its blocks to INODES
unfoldable pub ino_lists : State → ℕ → ℕ → Bool
ino_lists a g u = list_any (λ r. r.startino == 64 * u) (recs_of ((a.group g).tree Ino).reading)

unfoldable pub rmap_lists : State → ℕ → ℕ → Bool
rmap_lists a g u =
    all_below 8 (λ j. list_any (λ r. (r.owner == 0xffff_ffff_ffff_fff9) && nat_le r.start (8 * u + j) && nat_lt (8 * u + j) (r.start + r.count)) (recs_of ((a.group g).tree Rmap).reading))

unfoldable pub block_verifies : Layout → (ℕ → Option CoreState) → ℕ → ℕ → Bool
block_verifies at core g b = all_below 8 (λ s. verifies (core (inode_at at g b s)))

unfoldable pub unit_verifies : Layout → (ℕ → Option CoreState) → ℕ → ℕ → Bool
unit_verifies at core g u = all_below 8 (λ j. block_verifies at core g (8 * u + j))

-- the unit lies in its group
unfoldable pub has_unit : Layout → ℕ → ℕ → Bool
has_unit at g u = nat_lt g at.agcount && nat_lt (8 * u + 7) (group_len_of at g)

unfoldable pub is_listed : State → ℕ → ℕ → Bool
is_listed a g u = has_unit a.geometry g u && (ino_lists a g u || rmap_lists a g u)

-- Is the unit a chunk? It is listed, and its 64 cores all verify.
unfoldable pub is_chunk : State → ℕ → ℕ → Bool
is_chunk a g u = is_listed a g u && unit_verifies a.geometry a.core g u

abbrev pub in_chunk : State → Option (ℕ × ℕ) → Bool
in_chunk a None = false
in_chunk a (Some p) = is_chunk a p.0 (p.1 / 8)

-- Is there such an inode? It stands in a chunk, whether it is allocated or free.
unfoldable pub is_inode : State → ℕ → Bool
is_inode a ino = in_chunk a (split_of a.geometry (ino / 8))

-- the block of the device is such a block of the group
pub record InGroup (a : State) (g : ℕ) (Holds : ℕ → Type 0) (d : ℕ) : Type 0 where
  pub inside : g < a.geometry.agcount
  pub block : ℕ
  pub holds : Holds block
  pub place : device_block_of a.geometry g block ≡ d

pub record InChunk (a : State) (e d : ℕ) : Type 0 where
  pub same : e ≡ d
  pub group : ℕ
  pub unit : ℕ
  pub nth : ℕ
  pub one_of : nth < 8
  pub chunk : is_chunk a group unit ≡ true
  pub place : device_block_of a.geometry group (8 * unit + nth) ≡ d

pub record InForkTree (a : State) (ino : ℕ) (f : Fork) (d : ℕ) : Type 0 where
  pub inode : is_inode a ino ≡ true
  pub block : InFork a.geometry (a.fork ino f) d

pub record InMapped (a : State) (ino : ℕ) (f : Fork) (d : ℕ) : Type 0 where
  pub inode : is_inode a ino ≡ true
  pub block : InData a.geometry (a.fork ino f) d

abbrev pub InLog : Layout → Option Run3 → ℕ → Type 0
InLog at None d = ⊥
InLog at (Some r) d = (p : ℕ) × (p < r.count) × (device_block_of at r.group (r.start + p) ≡ d)

-- the part has this block of the device
abbrev pub Has : State → Part → ℕ → Type 0
Has a (HeadsOf g) d = InGroup a g (λ p. p ≡ 0) d
Has a LogPart d = InLog a.geometry a.geometry.log d
Has a (ListOf g) d = InGroup a g (λ p. In p (a.group g).free_list) d
Has a (TreeOf g k) d = InGroup a g (λ p. In p (blocks_of ((a.group g).tree k).reading)) d
Has a (ReserveOf g) d = InGroup a g (λ p. InOwned p (a.group g).reserve) d
Has a (LimboOf g) d = InGroup a g (λ p. InOwned p (a.group g).limbo) d
Has a (ChunkAt e) d = InChunk a e d
Has a (ForkTreeOf ino f) d = InForkTree a ino f d

-- no block of metadata has a second claim by metadata
abbrev pub Apart : State → Type 0
Apart a = (c e : Part) (d : ℕ) → Has a c d → Has a e d → c ≡ e

-- free or covered by these records
unfoldable pub is_free : List SpanRec → ℕ → Bool
is_free recs p = list_any (λ r. nat_le r.start p && nat_lt p (r.start + r.count)) recs

unfoldable pub is_covered : List RmapRec → ℕ → Bool
is_covered recs p = list_any (λ r. nat_le r.start p && nat_lt p (r.start + r.count)) recs

-- a reverse mapping covers the block that isn't one of a fork's data: such a mapping goes with the fork
unfoldable pub is_held : List RmapRec → ℕ → Bool
is_held recs p = list_any (λ r. not (is_fork_data r.owner r.word) && (nat_le r.start p && nat_lt p (r.start + r.count))) recs

-- steps that end with a block freed
abbrev pub frees : IntentKind → Bool
frees RmapAdd = false
frees RmapRemove = false
frees RmapChange = false
frees RefMore = false
frees RefLess = true
frees Free = true

unfoldable pub is_due : ℕ → ℕ → List Intent → Bool
is_due g p intents = list_any (λ i. frees i.kind && ((i.group == g) && (nat_le i.block p && nat_lt p (i.block + i.count)))) intents

-- a block that an event may free: a fork maps it, or a chain still has to
abbrev pub MayBeFreed : State → ℕ → ℕ → Type 0
MayBeFreed a g p = ((ino : ℕ) × (f : Fork) × InMapped a ino f (device_block_of a.geometry g p)) ⊎ ((c : ℕ) × (is_due g p (a.chains c) ≡ true))

abbrev pub listed_free : State → ℕ → List SpanRec
listed_free a g = recs_of ((a.group g).tree Bno).reading

abbrev pub mappings_of : State → ℕ → List RmapRec
mappings_of a g = recs_of ((a.group g).tree Rmap).reading

-- Is metadata kept from being taken or freed? A block of it that free space lists has a reverse mapping, so an
-- allocation asks and finds it; one that an event may free has one that isn't a fork's, which stays when the fork's goes.
pub record Covered (a : State) : Type 0 where
  pub listed : (g p : ℕ) → g < a.geometry.agcount → p < group_len_of a.geometry g → is_free (listed_free a g) p ≡ true → (c : Part) → Has a c (device_block_of a.geometry g p) → is_covered (mappings_of a g) p ≡ true
  pub freed : (g p : ℕ) → g < a.geometry.agcount → p < group_len_of a.geometry g → MayBeFreed a g p → (c : Part) → Has a c (device_block_of a.geometry g p) → is_held (mappings_of a g) p ≡ true
