-- Runs that move between free space and the free list keep each block sound.
use Rattle.std.specs.Prelude.{ℕ, ◌≡◌, ◌+◌, ◌≤◌, true, List, [], is_some}
use Rattle.std.specs.List.{list_any}
use Rattle.fs_change.specs.Changes.{plain_run}
use Rattle.fs_change.specs.Parts.{records_in}
use Rattle.fs_change.specs.Records.{holder_of, span}
use Rattle.fs_change.specs.Step.{Row}
use Rattle.fs_model.specs.declared.entry.Entry.TheVariants as entries
use Rattle.fs_model.specs.declared.entry.Extent.{Extent}
use Rattle.fs_state.specs.State.{State, Group}
use Rattle.rmap_recs.specs.Owners.{number_of}
use Rattle.rmap_recs.specs.declared.owner.Owner.TheVariants.{Ag}
use Rattle.run_edits.specs.Edits.{holds}
use Rattle.sblock.specs.declared.kind.Kind.{Kind}
use Rattle.sblock.specs.declared.kind.Kind.TheVariants.{Bno, Rmap}
use Rattle.law_accounts.specs.Account.Accounts.{due, hits, ledger_of, owes, removes}
use Rattle.law_accounts.specs.Account.Ledger.{Sound}
use Rattle.law_accounts.specs.Account.Space.{IsListing}
use Rattle.law_accounts.specs.Account.Steps.{IsWritten}

-- free space by start and reverse mappings can be edited
pub record AreEdited (p : Group) : Type 0 where
  pub spans : IsListing [] p
  pub maps : IsWritten [] p

-- a run that fills the list was free: its blocks gain a claim that stands alone, and the mapping that says so
abbrev pub RefilledSound : Type 0
RefilledSound = (a x : State) (left : List Kind) (e : Extent) (b owned alone : ℕ) → AreEdited (a.group e.group) → is_some (holder_of (records_in (a.group e.group) Bno) (span e.block e.count)) ≡ true
    → Row a left (entries.Refilled e) x → Sound (ledger_of a e.group b owned alone) → Sound (ledger_of x e.group b (owned + hits e.group b e) (alone + hits e.group b e))

-- A run of the list that joins free space: its blocks lose that claim, `still` and `other` being what is left, and the
-- mapping, which is there and which no intent takes.
pub record LeavesList (a : State) (e : Extent) (b owned alone still other : ℕ) : Type 0 where
  pub there : list_any (λ r. holds r (plain_run (number_of Ag) e)) (records_in (a.group e.group) Rmap) ≡ true
  pub owned_then : owned ≡ still + hits e.group b e
  pub alone_then : alone ≡ other + hits e.group b e
  pub some : other ≤ still
  pub none_goes : hits e.group b e ≡ 1 → due (owes removes e.group b) a.chains ≡ 0

abbrev pub TrimmedSound : Type 0
TrimmedSound = (a x : State) (left : List Kind) (e : Extent) (b owned alone still other : ℕ) → AreEdited (a.group e.group) → LeavesList a e b owned alone still other
    → Row a left (entries.Trimmed e) x → Sound (ledger_of a e.group b owned alone) → Sound (ledger_of x e.group b still other)
