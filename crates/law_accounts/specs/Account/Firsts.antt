-- First events keep each block sound: one entry, its row, and how the claims on the block change.
use Rattle.std.specs.Prelude.{ℕ, ◌≡◌, ◌+◌, ◌*◌, ◌≤◌, true, false, List}
use Rattle.fs_change.specs.Changes.{extent_of}
use Rattle.fs_change.specs.Step.{Step}
use Rattle.fs_model.specs.declared.entry.Entry.TheVariants as entries
use Rattle.fs_model.specs.declared.entry.Extent.{Extent}
use Rattle.fs_model.specs.declared.entry.Piece.{Piece}
use Rattle.fs_model.specs.declared.entry.SharedPiece.{SharedPiece}
use Rattle.fs_change.specs.Changes.{data_of}
use Rattle.fs_change.specs.Records.{is_unwritten_at}
use Rattle.fs_state.specs.State.{State}
use Rattle.sblock.specs.declared.kind.Kind.{Kind}
use Rattle.law_accounts.specs.Account.Accounts.{due, hits, ledger_of, owes, raises}
use Rattle.law_accounts.specs.Account.Ledger.{Sound}

-- A piece leaves its file: a block of it loses one claim. `still` are the claims that it has then, and `other` those
-- among them that stand alone. Chains whose count will rise still have their two owners, since they hold these inodes.
pub record LosesPiece (a : State) (m : Piece) (g b owned alone still other : ℕ) : Type 0 where
  pub owned_then : owned ≡ still + hits g b (extent_of m)
  pub fewer : other ≤ alone
  pub elsewhere : hits g b (extent_of m) ≡ 0 → other ≡ alone
  pub nobody_alone : 1 ≤ other → still ≡ 0 → ⊥
  pub holders : 2 * due (owes raises g b) a.chains ≤ still

abbrev pub UnmappedSound : Type 0
UnmappedSound = (a c : State) (left : List Kind) (m : Piece) (g b owned alone still other : ℕ) → Step a left (entries.Unmapped m) c
    → LosesPiece a m g b owned alone still other → Sound (ledger_of a g b owned alone) → Sound (ledger_of c g b still other)

abbrev pub run_shared : SharedPiece → Extent
run_shared m = record { group = m.group; block = m.block; count = m.count }

-- A written piece is mapped a second time: a block of it has written data alone, and gains a claim. The chain that
-- shares it holds both inodes, so it and each other chain whose count will rise have their two owners then.
abbrev pub GainsOwner : State → SharedPiece → ℕ → ℕ → ℕ → ℕ → Type 0
GainsOwner a m g b owned alone = hits g b (run_shared m) ≡ 1 → (1 ≤ owned) × (alone ≡ 0) × (2 * (due (owes raises g b) a.chains + 1) ≤ owned + 1)

abbrev pub SharedSound : Type 0
SharedSound = (a c : State) (left : List Kind) (m : SharedPiece) (g b owned alone : ℕ) → Step a left (entries.Shared m) c
    → GainsOwner a m g b owned alone → Sound (ledger_of a g b owned alone) → Sound (ledger_of c g b (owned + hits g b (run_shared m)) alone)

-- an unwritten piece becomes written: a block of it has one claim less that stands alone
abbrev pub ConvertedSound : Type 0
ConvertedSound = (a c : State) (left : List Kind) (m : Piece) (g b owned alone other : ℕ) → Step a left (entries.Converted m) c
    → is_unwritten_at m.offset (data_of a m.ino) ≡ true → alone ≡ other + hits g b (extent_of m) → Sound (ledger_of a g b owned alone) → Sound (ledger_of c g b owned other)

-- a written one stays as it is
abbrev pub ConvertedStays : Type 0
ConvertedStays = (a c : State) (left : List Kind) (m : Piece) (g b owned alone : ℕ) → Step a left (entries.Converted m) c
    → is_unwritten_at m.offset (data_of a m.ino) ≡ false → Sound (ledger_of a g b owned alone) → Sound (ledger_of c g b owned alone)
