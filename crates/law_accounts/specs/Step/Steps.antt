-- Inodes that are taken or given back, and runs that are freed, keep each block sound: one entry and its row.
use Rattle.std.specs.Prelude.{ℕ, ◌≡◌, ◌+◌, ◌<◌, Bool, true, false, List, Some, None, is_some}
use Rattle.fs_change.specs.Chains.{most_chains}
use Rattle.fs_change.specs.Changes.{chunk_extent}
use Rattle.fs_change.specs.Parts.{records_in, sick_in}
use Rattle.fs_change.specs.Records.{holder_of, span}
use Rattle.fs_change.specs.Step.{Row, group_of_inode}
use Rattle.fs_model.specs.declared.entry.Entry.TheVariants as entries
use Rattle.fs_state.specs.State.{State}
use Rattle.sblock.specs.declared.kind.Kind.{Kind}
use Rattle.sblock.specs.declared.kind.Kind.TheVariants.{Bno, Rmap}
use Rattle.law_accounts.specs.Account.Accounts.{hits, ledger_of}
use Rattle.law_accounts.specs.Account.Guard.{AreSound}
use Rattle.law_accounts.specs.Account.Ledger.{Sound}
use Rattle.law_accounts.specs.Account.Listed.{AreEdited}
use Rattle.law_accounts.specs.Account.Space.{IsListing}

-- a new chunk: its blocks were free, and gain a claim that stands alone, and the mapping that says so
abbrev pub ChunkTakenSound : Type 0
ChunkTakenSound = (a x : State) (left : List Kind) (writer ino uid c b owned alone : ℕ) → AreEdited (a.group (group_of_inode a ino)) → is_some (holder_of (records_in (a.group (group_of_inode a ino)) Bno) (span c 8)) ≡ true
    → Row a left (entries.Taken writer ino uid (Some c)) x → Sound (ledger_of a (group_of_inode a ino) b owned alone)
    → Sound (ledger_of x (group_of_inode a ino) b (owned + hits (group_of_inode a ino) b (chunk_extent (group_of_inode a ino) c)) (alone + hits (group_of_inode a ino) b (chunk_extent (group_of_inode a ino) c)))

-- an inode of a chunk that is there, taken or given back, changes no number
abbrev pub TakenSound : Type 0
TakenSound = (a x : State) (left : List Kind) (writer ino uid b owned alone : ℕ) → Row a left (entries.Taken writer ino uid None) x → Sound (ledger_of a (group_of_inode a ino) b owned alone) → Sound (ledger_of x (group_of_inode a ino) b owned alone)

abbrev pub GivenSound : Type 0
GivenSound = (a x : State) (left : List Kind) (writer ino b owned alone : ℕ) → Row a left (entries.Given writer ino) x → Sound (ledger_of a (group_of_inode a ino) b owned alone) → Sound (ledger_of x (group_of_inode a ino) b owned alone)

-- a run that is to be free, whether the entry says that it is kept or not: where mappings can be asked and each of its
-- blocks is sound it isn't
abbrev pub FreedKeeps : Type 0
FreedKeeps = (a x : State) (left : List Kind) (c g at n : ℕ) (kept : Bool) (b owned alone : ℕ) → c < most_chains → IsListing left (a.group g) → sick_in (a.group g) Rmap ≡ false → AreSound a g at n
    → Row a left (entries.Freed c g at n kept) x → Sound (ledger_of a g b owned alone) → Sound (ledger_of x g b owned alone)
