-- No entry takes a block off free space that a settled owner has, and none that it puts there is owned.
use Rattle.std.specs.Prelude.{◌≡◌, ℕ, Bool, true, false, List, [], ◌∷◌, Some}
use Rattle.fs_change.specs.Chains.{settled_own}
use Rattle.fs_change.specs.Changes.{block_extent, chunk_extent, extent_of, joins_no_space, owner_of_run}
use Rattle.fs_change.specs.Step.{Row, group_of_inode}
use Rattle.fs_model.specs.declared.entry.Entry.{Entry}
use Rattle.fs_model.specs.declared.entry.Entry.TheVariants as entries
use Rattle.fs_model.specs.declared.entry.Extent.{Extent}
use Rattle.fs_model.specs.declared.unit.Unit.TheVariants as units
use Rattle.fs_state.specs.State.{State}
use Rattle.rmap_recs.specs.Runs.{has}
use Rattle.rmap_recs.specs.declared.tuples.Tuple.{Tuple}
use Rattle.sblock.specs.declared.kind.Kind.{Kind}
use Rattle.law_accounts.specs.Account.Accounts.{in_span}
use Rattle.law_accounts.specs.Owner.Told.{AreTold}

-- no settled owner has a block of the run
abbrev pub IsNobodys : State → Extent → Type 0
IsNobodys a e = (t : Tuple) → has (settled_own a e.group) t ≡ true → in_span e.block e.count t.block ≡ false

abbrev pub EachRun : (Extent → Type 0) → List Extent → Type 0
EachRun P [] = Unit {0}
EachRun P (e ∷ es) = P e × EachRun P es

-- Which run leaves free space? That of a rebuild of reverse mappings is in the next section, since it isn't asked of these.
abbrev pub taken_off : State → Entry → List Extent
taken_off a (entries.Mapped m) = extent_of m ∷ []
taken_off a (entries.Taken writer ino uid (Some b)) = chunk_extent (group_of_inode a ino) b ∷ []
taken_off a (entries.Refilled e) = e ∷ []
taken_off a (entries.Reserved g units.Inode b true) = block_extent g b ∷ []
taken_off a (entries.Reserved g units.Refc b true) = block_extent g b ∷ []
taken_off a e = []

-- where reverse mappings tell settled owners, it is nobody's
abbrev pub TakesNobodys : Type 0
TakesNobodys = (a x : State) (left : List Kind) (e : Entry) → Row a left e x → ((g : ℕ) → AreTold a g) → EachRun (IsNobodys a) (taken_off a e)

-- ---- a run that joins free space

-- one that a chain frees is nobody's
abbrev pub FreesNobodys : Type 0
FreesNobodys = (a x : State) (left : List Kind) (c g at n : ℕ) → Row a left (entries.Freed c g at n false) x → AreTold a g → IsNobodys a (record { group = g; block = at; count = n })

-- one that is reaped is nobody's but limbo's, with the owner that leaves it
abbrev pub ReapsNobodys : Type 0
ReapsNobodys = (a x : State) (left : List Kind) (e : Extent) → Row a left (entries.Reaped e) x → joins_no_space (owner_of_run (a.group e.group) e) e (a.group e.group) ≡ false → AreTold a e.group
    → (t : Tuple) → has (settled_own a e.group) t ≡ true → in_span e.block e.count t.block ≡ true → t.owner ≡ owner_of_run (a.group e.group) e
