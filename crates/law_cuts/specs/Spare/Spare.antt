-- Whose a spare block was that a rebuild reserves, and what mappings say behind it.
use Rattle.std.specs.Prelude.{ℕ, Bool, ◌⊎◌, ◌/◌, ◌≡◌, ◌||◌, ◌==◌, true, false, not, List, ◌∷◌, filter}
use Rattle.law_accounts.specs.Account.Ledger.{Sound}
use Rattle.law_accounts.specs.Account.Stated.{ledger_at}
use Rattle.fs_change.specs.Chains.{owed_takings, settled_forks, settled_own}
use Rattle.fs_change.specs.Changes.{block_extent}
use Rattle.fs_change.specs.Loose.{pool_of}
use Rattle.fs_change.specs.Step.{Row, Step}
use Rattle.fs_state.specs.Derive.{mappings}
use Rattle.fs_state.specs.Own.{own}
use Rattle.fs_model.specs.declared.entry.Entry.TheVariants as entries
use Rattle.fs_model.specs.declared.unit.Unit.{Unit as ScrubUnit}
use Rattle.fs_model.specs.declared.unit.Unit.TheVariants as units
use Rattle.fs_state.specs.Apart.{is_chunk}
use Rattle.fs_state.specs.Group.{is_among}
use Rattle.fs_state.specs.State.{State}
use Rattle.geom.specs.Apart.{HasFitting}
use Rattle.law_accounts.specs.Owner.Nobodys.{IsNobodys}
use Rattle.law_accounts.specs.Owner.Told.{AreTold}
use Rattle.rmap_recs.specs.Owners.{number_of}
use Rattle.rmap_recs.specs.Runs.{AreRuns, has, is_same}
use Rattle.rmap_recs.specs.declared.owner.Owner.TheVariants.{Ag}
use Rattle.rmap_recs.specs.declared.tuples.Tuple.{Tuple}
use Rattle.run_edits.specs.EditLaws.{AreUntied}
use Rattle.sblock.specs.declared.kind.Kind.{Kind}
use Rattle.sblock.specs.declared.kind.Kind.TheVariants.{Rmap}
use Rattle.tree_defs.specs.Lists.{AllDiffer, is_in}

-- ---- a rebuild that isn't of reverse mappings

-- the mappings note the owner of its spare blocks
abbrev pub is_noting : ScrubUnit → Bool
is_noting units.Inode = true
is_noting units.Rmap = false
is_noting units.Free = true
is_noting units.Refc = true

-- no mapping covers its spare block: where these tell settled owners, it is nobody's
abbrev pub SpareNobodys : Type 0
SpareNobodys = (a x : State) (left : List Kind) (g b : ℕ) (unit : ScrubUnit) → is_noting unit ≡ true
    → Row a left (entries.Reserved g unit b true) x → AreTold a g → IsNobodys a (block_extent g b)

-- The mappings note its new owner, unless they are left, which they can't be where free space is rebuilt. So those of every
-- group go on telling settled owners: of the state that the row decides,
abbrev pub SpareDecides : Type 0
SpareDecides = (a z : State) (left : List Kind) (g b h : ℕ) (unit : ScrubUnit) → is_noting unit ≡ true
    → HasFitting a.geometry → (s : Step a left (entries.Reserved g unit b true) z)
    → (unit ≡ units.Free) ⊎ (is_among Rmap left ≡ false) → AreUntied (settled_own a g) → AreTold a g → AreTold a h
    → AreTold s.decided h

-- and of the one behind the entry, where no block of trees, list and limbo stands there twice
abbrev pub SpareTells : Type 0
SpareTells = (a z : State) (left : List Kind) (g b h : ℕ) (unit : ScrubUnit) → is_noting unit ≡ true
    → HasFitting a.geometry → Step a left (entries.Reserved g unit b true) z
    → (unit ≡ units.Free) ⊎ (is_among Rmap left ≡ false) → AreUntied (settled_own a g) → AllDiffer (pool_of (a.group g))
    → AreTold a g → AreTold a h → AreTold z h

-- ---- any rebuild

-- its spare block is of no chunk, where free space is rebuilt by mappings that tell settled owners
abbrev pub SpareNoChunk : Type 0
SpareNoChunk = (a x : State) (left : List Kind) (g b : ℕ) (unit : ScrubUnit)
    → Row a left (entries.Reserved g unit b true) x → (unit ≡ units.Free → AreTold a g) → is_chunk a g (b / 8) ≡ false

-- so mappings of other groups tell what they told
abbrev pub SpareElsewhere : Type 0
SpareElsewhere = (a z : State) (left : List Kind) (g b h : ℕ) (unit : ScrubUnit) → HasFitting a.geometry
    → Step a left (entries.Reserved g unit b true) z → (unit ≡ units.Free → AreTold a g) → (h == g) ≡ false
    → AreTold a h → AreTold z h

-- behind one that was nobody's no two settled owners differ in the unwritten flag alone, and no block stands twice, where it
-- was so before
abbrev pub SpareAgain : Type 0
SpareAgain = (a z : State) (left : List Kind) (g b : ℕ) (unit : ScrubUnit) → HasFitting a.geometry
    → Step a left (entries.Reserved g unit b true) z → IsNobodys a (block_extent g b) → AreUntied (settled_own a g)
    → AllDiffer (pool_of (a.group g)) → AreUntied (settled_own z g) × AllDiffer (pool_of (z.group g))

-- ---- a rebuild of reverse mappings

-- nobody has the block, as all that is there says
abbrev pub UnnotedUnclaimed : Type 0
UnnotedUnclaimed = (a x : State) (left : List Kind) (g b : ℕ) → Row a left (entries.Reserved g units.Rmap b true) x
    → (t : Tuple) → has (own a g) t ≡ true → (t.block == b) ≡ false

-- no chain is still to take the block from who had it
abbrev pub OwesNoTaking : State → ℕ → ℕ → Type 0
OwesNoTaking a g b = (t : Tuple) → has (owed_takings a g) t ≡ true → (t.block == b) ≡ false

-- where none is, no settled owner has it either
abbrev pub UnnotedNobodys : Type 0
UnnotedNobodys = (a x : State) (left : List Kind) (g b : ℕ) → Row a left (entries.Reserved g units.Rmap b true) x
    → OwesNoTaking a g b → IsNobodys a (block_extent g b)

-- Do mappings tell the settled owners of all blocks but these?
abbrev pub AreToldBut : State → ℕ → List ℕ → Type 0
AreToldBut a g bs = AreRuns (filter (λ t. not (is_in t.block bs)) (settled_own a g)) (mappings a g)

-- of a sound block none is, where mappings tell so much: free space lists it
abbrev pub UnnotedOwesNone : Type 0
UnnotedOwesNone = (a x : State) (left : List Kind) (g b : ℕ) (bs : List ℕ)
    → Row a left (entries.Reserved g units.Rmap b true) x → Sound (ledger_at a g b) → is_in b bs ≡ false
    → AreToldBut a g bs → OwesNoTaking a g b

-- the owner of a block that the mappings' rebuild reserves
abbrev pub reserved_owner : ℕ → Tuple
reserved_owner b = record { block = b; owner = number_of Ag; word = 0 }

-- What does the entry do to its own group? Forks keep their settled owners, the block gets its owner, and the mappings don't
-- say so.
pub record IsUnnoted (a z : State) (g b : ℕ) : Type 0 where
  pub maps : mappings z g ≡ mappings a g
  pub forks : (t : Tuple) → has (settled_forks z g) t ≡ has (settled_forks a g) t
  pub owns : (t : Tuple) → has (settled_own z g) t ≡ (is_same t (reserved_owner b) || has (settled_own a g) t)

abbrev pub UnnotedOwns : Type 0
UnnotedOwns = (a z : State) (left : List Kind) (g b : ℕ) → HasFitting a.geometry
    → Step a left (entries.Reserved g units.Rmap b true) z → AllDiffer (pool_of (a.group g)) → IsUnnoted a z g b

-- so what mappings told of all blocks but those that were reserved before, they tell of all but this one too
abbrev pub UnnotedTells : Type 0
UnnotedTells = (a z : State) (left : List Kind) (g b : ℕ) (bs : List ℕ) → HasFitting a.geometry
    → Step a left (entries.Reserved g units.Rmap b true) z → AllDiffer (pool_of (a.group g)) → OwesNoTaking a g b
    → AreToldBut a g bs → AreToldBut z g (b ∷ bs)
