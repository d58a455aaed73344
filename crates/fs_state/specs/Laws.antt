-- What a derivation reads, and what it means that a unit has no faults.
use Rattle.std.specs.Prelude.{◌≡◌, ◌↔◌, ℕ, ◌<◌, true, List, [], ◌∷◌, Some, None}
use Rattle.fs_model.specs.declared.fault.Counter.{Counter}
use Rattle.fs_model.specs.declared.unit.Unit.{Unit as ScrubUnit}
use Rattle.geom.specs.Layout.{group_len_of, inode_at}
use Rattle.sblock.specs.Blocks.{IsRising}
use Rattle.sblock.specs.declared.kind.Kind.{Kind}
use Rattle.fs_state.specs.Apart.{ino_lists, rmap_lists, verifies}
use Rattle.fs_state.specs.Kinds.{form_of}
use Rattle.tree_defs.specs.Lists.{In}
use Rattle.fs_state.specs.State.{State, Readable, recs_of, blocks_of}
use Rattle.fs_state.specs.Chunks.{chunks, inodes}
use Rattle.fs_state.specs.Claims.{Claimed, claims, data_claims, attribute_claims, tree_claims}
use Rattle.fs_state.specs.Contradiction.{is_written_data, first_overlap}
use Rattle.fs_state.specs.Derive.{is_free, mappings, ino_of, fino_of, bno_of, cnt_of, refc_of, derive}
use Rattle.fs_state.specs.Faults.{wanted, faults}
use Rattle.fs_state.specs.Records.{kinds_of, counters_of}
use Rattle.fs_state.specs.Own.{own, rmap_of}

-- ---- free space and reference counts are read off the reverse mappings, and off nothing else: not off their own trees

pub record SameSpace (a b : State) (g : ℕ) : Type 0 where
  pub bno : bno_of b g ≡ bno_of a g
  pub cnt : cnt_of b g ≡ cnt_of a g
  pub refc : refc_of b g ≡ refc_of a g

abbrev pub SpaceFromMappings : Type 0
SpaceFromMappings = (a b : State) (g : ℕ) → b.geometry ≡ a.geometry → mappings b g ≡ mappings a g → SameSpace a b g

-- ---- inode records are read off the two listings of chunks and the cores of the group: of each core whether it
-- verifies and whether its inode is free

pub record SameListing (a b : State) (g : ℕ) : Type 0 where
  pub geometry : b.geometry ≡ a.geometry
  pub ino : (u : ℕ) → ino_lists b g u ≡ ino_lists a g u
  pub rmap : (u : ℕ) → rmap_lists b g u ≡ rmap_lists a g u
  pub verified : (p s : ℕ) → verifies (b.core (inode_at b.geometry g p s)) ≡ verifies (a.core (inode_at a.geometry g p s))
  pub free : (p s : ℕ) → is_free (b.core (inode_at b.geometry g p s)) ≡ is_free (a.core (inode_at a.geometry g p s))

pub record SameInodes (a b : State) (g : ℕ) : Type 0 where
  pub chunks : chunks b g ≡ chunks a g
  pub ino : ino_of b g ≡ ino_of a g
  pub fino : fino_of b g ≡ fino_of a g

abbrev pub InodesFromListing : Type 0
InodesFromListing = (a b : State) (g : ℕ) → SameListing a b g → SameInodes a b g

-- ---- reverse mappings are read off what claims blocks of the group: the log, the list, the blocks of trees, reserve
-- and limbo, the chunks, and the mappings and btree blocks there of all inodes in chunks

pub record SameParts (a b : State) (g : ℕ) : Type 0 where
  pub geometry : b.geometry ≡ a.geometry
  pub list : (b.group g).free_list ≡ (a.group g).free_list
  pub trees : (k : Kind) → blocks_of ((b.group g).tree k).reading ≡ blocks_of ((a.group g).tree k).reading
  pub reserve : (b.group g).reserve ≡ (a.group g).reserve
  pub limbo : (b.group g).limbo ≡ (a.group g).limbo
  pub chunks : (h : ℕ) → chunks b h ≡ chunks a h
  pub data_forks : (ino : ℕ) → In ino (inodes a) → data_claims b g ino ≡ data_claims a g ino
  pub attribute_forks : (ino : ℕ) → In ino (inodes a) → attribute_claims b g ino ≡ attribute_claims a g ino
  pub fork_trees : (ino : ℕ) → In ino (inodes a) → tree_claims b g ino ≡ tree_claims a g ino

pub record SameOwners (a b : State) (g : ℕ) : Type 0 where
  pub claims : claims b g ≡ claims a g
  pub own : own b g ≡ own a g
  pub rmap : rmap_of b g ≡ rmap_of a g

abbrev pub OwnersFromParts : Type 0
OwnersFromParts = (a b : State) (g : ℕ) → SameParts a b g → SameOwners a b g

-- ---- a unit has no fault exactly where its trees can be read and hold what they should, and its counters are right

abbrev pub IsGoodTree : State → ℕ → Kind → Type 0
IsGoodTree a g k = (blocks : List ℕ) × (((a.group g).tree k).reading ≡ Readable (derive a g k) blocks)

abbrev pub IsGoodCounter : State → ℕ → Counter → Type 0
IsGoodCounter a g name = (n : ℕ) → wanted a g name ≡ Some n → (a.group g).counters name ≡ n

abbrev pub EachTree : (Kind → Type 0) → List Kind → Type 0
EachTree P [] = Unit {0}
EachTree P (k ∷ ks) = P k × EachTree P ks

abbrev pub EachCounter : (Counter → Type 0) → List Counter → Type 0
EachCounter P [] = Unit {0}
EachCounter P (c ∷ cs) = P c × EachCounter P cs

-- the records of the tree, and those that it should hold, rise in the order of their kind
abbrev pub DoRise : State → ℕ → Kind → Type 0
DoRise a g k = IsRising (form_of k) (recs_of ((a.group g).tree k).reading) × IsRising (form_of k) (derive a g k)

abbrev pub IsGood : State → ℕ → ScrubUnit → Type 0
IsGood a g unit = EachTree (IsGoodTree a g) (kinds_of unit) × EachCounter (IsGoodCounter a g) (counters_of unit)

abbrev pub NoFaultsExactly : Type 0
NoFaultsExactly = (a : State) (g : ℕ) (unit : ScrubUnit) → EachTree (DoRise a g) (kinds_of unit) → (faults a g unit ≡ []) ↔ IsGood a g unit

-- ---- no claims overlap exactly where any two on one block are of written file data

-- two claims may stand together, where they are on one of the first blocks
abbrev pub MayStand : ℕ → Claimed → Claimed → Type 0
MayStand len c d = c.block < len → d.block ≡ c.block → (is_written_data c ≡ true) × (is_written_data d ≡ true)

abbrev pub StandsBeside : ℕ → Claimed → List Claimed → Type 0
StandsBeside len c [] = Unit {0}
StandsBeside len c (d ∷ ds) = MayStand len c d × StandsBeside len c ds

-- any two of them
abbrev pub StandTogether : ℕ → List Claimed → Type 0
StandTogether len [] = Unit {0}
StandTogether len (c ∷ cs) = StandsBeside len c cs × StandTogether len cs

abbrev pub NoOverlapExactly : Type 0
NoOverlapExactly = (a : State) (g : ℕ) (cs : List Claimed) → (first_overlap a g cs ≡ None) ↔ StandTogether (group_len_of a.geometry g) cs
