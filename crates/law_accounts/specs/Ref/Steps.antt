-- A finished step of reference counts keeps each block sound: one entry and its row.
use Rattle.std.specs.Prelude.{ℕ, ◌≡◌, ◌<◌, Bool, true, List}
use Rattle.fs_change.specs.Chains.{most_chains}
use Rattle.fs_change.specs.Parts.{is_edited, records_in}
use Rattle.fs_change.specs.Step.{Row}
use Rattle.fs_model.specs.declared.entry.Entry.TheVariants as entries
use Rattle.fs_state.specs.State.{State, Group, is_readable}
use Rattle.sblock.specs.declared.kind.Kind.{Kind}
use Rattle.sblock.specs.declared.kind.Kind.TheVariants.{Refc}
use Rattle.law_accounts.specs.Account.Accounts.{ledger_of}
use Rattle.law_accounts.specs.Account.Chained.{IsChain}
use Rattle.law_accounts.specs.Account.Ledger.{Sound}
use Rattle.law_accounts.specs.Account.Stated.{ChunksStay, ledger_at}
use Rattle.law_accounts.specs.Count.Counted.{AreCounts}

-- reference counts can be edited, and their records don't overlap
pub record AreCounting (left : List Kind) (p : Group) : Type 0 where
  pub edited : is_edited left p Refc ≡ true
  pub readable : is_readable (p.tree Refc).reading ≡ true
  pub apart : AreCounts 0 (records_in p Refc)

-- each stretch that rises or falls, also one that sets its blocks free
abbrev pub RefDoneSound : Type 0
RefDoneSound = (a x : State) (left : List Kind) (c g at n : ℕ) (more : Bool) (b owned alone : ℕ) → c < most_chains → AreCounting left (a.group g) → ((k : ℕ) → k < most_chains → IsChain (a.chains k))
    → Row a left (entries.RefDone c g at n more) x → Sound (ledger_of a g b owned alone) → Sound (ledger_of x g b owned alone)

-- it leaves all claims, so a block that was sound with those that the state had is so again
abbrev pub RefDoneStated : Type 0
RefDoneStated = (a x : State) (left : List Kind) (c g at n : ℕ) (more : Bool) (b : ℕ) → c < most_chains → AreCounting left (a.group g) → ((k : ℕ) → k < most_chains → IsChain (a.chains k))
    → ChunksStay a x → Row a left (entries.RefDone c g at n more) x → Sound (ledger_at a g b) → Sound (ledger_at x g b)

-- and reference counts stay as they are edited
abbrev pub RefDoneCounts : Type 0
RefDoneCounts = (a x : State) (left : List Kind) (c g at n : ℕ) (more : Bool) → AreCounting left (a.group g) → Row a left (entries.RefDone c g at n more) x → AreCounting left (x.group g)
