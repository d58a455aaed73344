-- What an event that writes the blocks of some parts leaves as it is.
use Rattle.std.specs.Prelude.{◌≡◌, ℕ, ◌+◌, ◌*◌, ◌/◌, ◌%◌, ◌<◌, ◌==◌, ◌⊎◌, ◌↔◌, Contains, Bool, true, false, List, [], Option, Some, None, Result, Ok, Err, is_ok}
use Rattle.byte_fields.specs.Fields.{field}
use Rattle.geom.specs.Apart.{Splits}
use Rattle.geom.specs.Layout.{Layout, split_of, device_block_of}
use Rattle.sblock.specs.declared.kind.Kind.{Kind}
use Rattle.dinode_core.specs.declared.mapping.Fork.{Fork}
use Rattle.dinode_core.specs.declared.mapping.ForkFault.{ForkFault}
use Rattle.dinode_core.specs.ForkTree.{is_fork_block}
use Rattle.dinode_core.specs.Frame.{device_at}
use Rattle.fs_state.specs.Apart.{Part, HeadsOf, LogPart, ListOf, TreeOf, ReserveOf, LimboOf, ChunkAt, ForkTreeOf, Has, Apart, InOwned, verifies, unit_verifies, has_unit, is_inode, is_listed, is_chunk}
use Rattle.fs_state.specs.Inodes.{slot_in, core_in, no_fork}
use Rattle.fs_state.specs.Kinds.{Image, heads_of, root_of, level_of}
use Rattle.fs_state.specs.Read.{state_of, raw_of, reserved, KeepsBad, opened}
use Rattle.fs_state.specs.State.{State, Kept, Bad, ForkList, Owned, pairs_of, is_readable, recs_of, blocks_of}

-- What always holds of an image and what is kept: a tree that can't be read is kept as such, each
-- metadata block has one claim, and no chunk is hidden by a reserve.
pub record Firm (at : Layout) (image : Image) (kept : Kept) : Type 0 where
  pub keeps : KeepsBad at image kept
  pub apart : Apart (state_of at image kept)
  pub bare : (g u : ℕ) → is_listed (state_of at image kept) g u ≡ true → unit_verifies at (raw_of at image) g u ≡ true → is_chunk (state_of at image kept) g u ≡ true

-- how a block fares: it stays, or it is of a part that is touched, or of none
pub data Fate (a : State) (image image' : Image) (touches : Part → Bool) (d : ℕ) : Type 0 where
  Stays : image' d ≡ image d → Fate a image image' touches d
  Touched : (c : Part) → touches c ≡ true → Has a c d → Fate a image image' touches d
  Free : ((c : Part) → Has a c d → ⊥) → Fate a image image' touches d

-- bytes of no fork's btree, and, but in a chunk that is touched, with a slot that holds no inode (of block 0 the AGF's)
pub record IsAlien (touches : Part → Bool) (d : ℕ) (bytes : List ℕ) : Type 0 where
  pub no_core : touches (ChunkAt d) ≡ false → (s : ℕ) × (s < 8) × ((field 2 (slot_in bytes s) 0 == 0x494e) ≡ false)
  pub no_fork : is_fork_block bytes ≡ false

abbrev pub is_chunk_part : Part → Bool
is_chunk_part (ChunkAt d) = true
is_chunk_part (HeadsOf g) = false
is_chunk_part LogPart = false
is_chunk_part (ListOf g) = false
is_chunk_part (TreeOf g k) = false
is_chunk_part (ReserveOf g) = false
is_chunk_part (LimboOf g) = false
is_chunk_part (ForkTreeOf ino f) = false

-- what is kept of each part that isn't touched stays; what is reserved now was of no chunk
pub record KeptStays (at : Layout) (a : State) (touches : Part → Bool) (kept kept' : Kept) : Type 0 where
  pub trust : (g : ℕ) (k : Kind) → touches (TreeOf g k) ≡ false → kept'.trust g k ≡ kept.trust g k
  pub bad : (g : ℕ) (k : Kind) → touches (TreeOf g k) ≡ false → kept'.bad g k ≡ kept.bad g k
  pub reserve : (g : ℕ) → touches (ReserveOf g) ≡ false → kept'.reserve g ≡ kept.reserve g
  pub limbo : (g : ℕ) → touches (LimboOf g) ≡ false → pairs_of (kept'.limbo g) ≡ pairs_of (kept.limbo g)
  pub came : (g p : ℕ) → g < at.agcount → InOwned p (kept'.reserve g) → ((c : Part) × (is_chunk_part c ≡ false) × Has a c (device_block_of at g p)) ⊎ ((c : Part) → Has a c (device_block_of at g p) → ⊥)

-- An event that writes only blocks of touched parts and of none. In a touched block of inodes,
-- those that aren't edited stay, and those that are still verify.
pub record Frame (at : Layout) (image image' : Image) (kept kept' : Kept) (touches : Part → Bool) (edits : ℕ → Bool) : Type 0 where
  pub fates : (d : ℕ) → Fate (state_of at image kept) image image' touches d
  pub alien : (d : ℕ) → (image' d ≡ image d) ⊎ IsAlien touches d (image' d)
  pub kept_stays : KeptStays at (state_of at image kept) touches kept kept'
  pub slots : (ino d : ℕ) → device_at at (split_of at (ino / 8)) ≡ Some d → touches (ChunkAt d) ≡ true → edits ino ≡ false → slot_in (image' d) (ino % 8) ≡ slot_in (image d) (ino % 8)
  pub edited : (ino d : ℕ) → device_at at (split_of at (ino / 8)) ≡ Some d → touches (ChunkAt d) ≡ true → edits ino ≡ true → verifies (Some (core_in at ino (slot_in (image' d) (ino % 8)))) ≡ true
  -- heads name the trees that aren't touched as before
  pub roots : (g : ℕ) (k : Kind) → g < at.agcount → touches (TreeOf g k) ≡ false → (root_of (heads_of at image' g) k ≡ root_of (heads_of at image g) k) × (level_of (heads_of at image' g) k ≡ level_of (heads_of at image g) k)
  pub lists : (g : ℕ) → g < at.agcount → touches (ListOf g) ≡ false → (heads_of at image' g).list ≡ (heads_of at image g).list

-- a fork that can be read stays; one that can't still can't
abbrev pub SameFork : Result ForkList ForkFault → Result ForkList ForkFault → Type 0
SameFork (Ok list) now = now ≡ Ok list
SameFork (Err fault) now = is_ok now ≡ false

-- the unit isn't listed anew, a chunk stays listed, and its blocks are touched only where it is a chunk
pub record UnitStays (a b : State) (touches : Part → Bool) (g u : ℕ) : Type 0 where
  pub before : is_listed b g u ≡ true → is_listed a g u ≡ true
  pub after : is_chunk a g u ≡ true → is_listed b g u ≡ true
  pub known : (j : ℕ) → j < 8 → has_unit a.geometry g u ≡ true → touches (ChunkAt (device_block_of a.geometry g (8 * u + j))) ≡ true → is_chunk a g u ≡ true

-- What isn't touched is as it was.
pub record Rest (at : Layout) (a b : State) (image image' : Image) (kept kept' : Kept) (touches : Part → Bool) (edits : ℕ → Bool) : Type 0 where
  pub lists : (g : ℕ) → g < at.agcount → touches (ListOf g) ≡ false → (b.group g).free_list ≡ (a.group g).free_list
  pub counters : (g : ℕ) → g < at.agcount → touches (HeadsOf g) ≡ false → (b.group g).counters ≡ (a.group g).counters
  pub trees : (g : ℕ) (k : Kind) → g < at.agcount → touches (TreeOf g k) ≡ false → (b.group g).tree k ≡ (a.group g).tree k
  pub reserves : (g : ℕ) → touches (ReserveOf g) ≡ false → (b.group g).reserve ≡ (a.group g).reserve
  pub limbos : (g : ℕ) → touches (LimboOf g) ≡ false → (b.group g).limbo ≡ (a.group g).limbo
  pub cores : (ino d : ℕ) → device_at at (split_of at (ino / 8)) ≡ Some d → image' d ≡ image d → reserved kept' (split_of at (ino / 8)) ≡ reserved kept (split_of at (ino / 8)) → b.core ino ≡ a.core ino
  pub inodes : (ino : ℕ) → is_inode a ino ≡ true → edits ino ≡ false → b.core ino ≡ a.core ino
  pub forks : (ino : ℕ) (f : Fork) → is_inode a ino ≡ true → is_inode b ino ≡ true → edits ino ≡ false → touches (ForkTreeOf ino f) ≡ false → SameFork (a.fork ino f) (b.fork ino f)
  pub chunks : (g u : ℕ) → UnitStays a b touches g u → is_chunk b g u ≡ is_chunk a g u
  pub bare : (g u : ℕ) → UnitStays a b touches g u → is_listed b g u ≡ true → unit_verifies at (raw_of at image') g u ≡ true → is_chunk b g u ≡ true

-- an inode of a unit that is listed anew
abbrev pub fresh_at : (ℕ → ℕ → Bool) → Option (ℕ × ℕ) → Bool
fresh_at fresh None = false
fresh_at fresh (Some p) = fresh p.0 (p.1 / 8)

-- A claim of this part is as before: nothing touches it, nor the inode of a fork, and no new chunk has it.
abbrev pub Plain : Layout → (Part → Bool) → (ℕ → Bool) → (ℕ → ℕ → Bool) → Part → Type 0
Plain at touches edits fresh (HeadsOf g) = Unit {0}
Plain at touches edits fresh LogPart = Unit {0}
Plain at touches edits fresh (ListOf g) = touches (ListOf g) ≡ false
Plain at touches edits fresh (TreeOf g k) = touches (TreeOf g k) ≡ false
Plain at touches edits fresh (ReserveOf g) = touches (ReserveOf g) ≡ false
Plain at touches edits fresh (LimboOf g) = touches (LimboOf g) ≡ false
Plain at touches edits fresh (ChunkAt d) = (g u j : ℕ) → fresh g u ≡ true → j < 8 → device_block_of at g (8 * u + j) ≡ d → ⊥
Plain at touches edits fresh (ForkTreeOf ino f) = (edits ino ≡ false) × (touches (ForkTreeOf ino f) ≡ false) × (fresh_at fresh (split_of at (ino / 8)) ≡ false)

-- the composed law
abbrev pub FrameLaw : Type 0
FrameLaw = (at : Layout) (image image' : Image) (kept kept' : Kept) (touches : Part → Bool) (edits : ℕ → Bool) → Splits at → Firm at image kept → Frame at image image' kept kept' touches edits → Rest at (state_of at image kept) (state_of at image' kept') image image' kept kept' touches edits

-- a tree that couldn't be read at opening stands with the fault and the claims of that moment, whatever is written later
pub record StandsBad (a : State) (g : ℕ) (k : Kind) (bad : Bad) : Type 0 where
  pub unread : is_readable ((a.group g).tree k).reading ≡ false
  pub none : recs_of ((a.group g).tree k).reading ≡ []
  pub claims : blocks_of ((a.group g).tree k).reading ≡ bad.claims

abbrev pub BadTreesStand : Type 0
BadTreesStand = (at : Layout) (image : Image) (kept : Kept) (g : ℕ) (k : Kind) (bad : Bad) → kept.bad g k ≡ Some bad → StandsBad (state_of at image kept) g k bad

-- one set of pairs is one limbo, in whatever order they are kept and how often, and it has each of them
pub record PairsAreASet : Type 0 where
  pub one : (os ps : List Owned) → ((o : Owned) → Contains os o → Contains ps o) → ((o : Owned) → Contains ps o → Contains os o) → pairs_of os ≡ pairs_of ps
  pub has : (os : List Owned) (o : Owned) → Contains (pairs_of os) o ↔ Contains os o

-- a core outside of chunks has no forks
abbrev pub ForksOfInodes : Type 0
ForksOfInodes = (at : Layout) (image : Image) (kept : Kept) (ino : ℕ) (f : Fork) → is_inode (state_of at image kept) ino ≡ false → (state_of at image kept).fork ino f ≡ Ok no_fork

-- what is found at opening
abbrev pub OpeningLaw : Type 0
OpeningLaw = (at : Layout) (image : Image) → Apart (state_of at image (opened at image)) → Firm at image (opened at image)
