-- The numbers of a block as a state has them, its claims counted.
use Rattle.std.specs.Prelude.{ℕ, ◌≡◌, ◌<◌, false, List}
use Rattle.fs_change.specs.Chains.{Quiet, most_chains}
use Rattle.fs_change.specs.Parts.{records_in}
use Rattle.fs_change.specs.Step.{Row}
use Rattle.fs_state.specs.Claims.{claims}
use Rattle.fs_model.specs.declared.entry.Entry.TheVariants as entries
use Rattle.fs_state.specs.Apart.{is_chunk}
use Rattle.fs_state.specs.State.{State}
use Rattle.sblock.specs.declared.kind.Kind.{Kind}
use Rattle.sblock.specs.declared.kind.Kind.TheVariants.{Rmap}
use Rattle.law_accounts.specs.Account.Accounts.{alone_at, ledger_of, owned_at}
use Rattle.law_accounts.specs.Account.Ledger.{IsDerived, Ledger, Sound}
use Rattle.law_accounts.specs.Account.Space.{IsListing}
use Rattle.law_accounts.specs.Account.Steps.{IsWritten, NextIsThere}

-- all claims on the block, and those that aren't written file data
abbrev pub ledger_at : State → ℕ → ℕ → Ledger
ledger_at a g b = ledger_of a g b (owned_at b (claims a g)) (alone_at b (claims a g))

-- Where no chain owes the group anything, a sound block is free exactly where no mapping covers it, and once; else its
-- count is how many mappings cover it; and these are as many as it has claims.
abbrev pub QuietIsDerived : Type 0
QuietIsDerived = (a : State) (g b : ℕ) → Quiet a g → Sound (ledger_at a g b) → IsDerived (ledger_at a g b)

-- no chunk comes or goes
abbrev pub ChunksStay : State → State → Type 0
ChunksStay a x = (h u : ℕ) → is_chunk x h u ≡ is_chunk a h u

-- a finished step of reverse mappings leaves all claims, so a block that was sound with those that the state had is so again
abbrev pub RmapDoneStated : Type 0
RmapDoneStated = (a x : State) (left : List Kind) (c ino g at n b : ℕ) → c < most_chains → IsWritten left (a.group g) → NextIsThere (records_in (a.group g) Rmap) (a.chains c)
    → ChunksStay a x → Row a left (entries.RmapDone c ino g at n) x → Sound (ledger_at a g b) → Sound (ledger_at x g b)

-- and so does a run that is freed and not kept
abbrev pub FreedStated : Type 0
FreedStated = (a x : State) (left : List Kind) (c g at n b : ℕ) → c < most_chains → IsListing left (a.group g)
    → ChunksStay a x → Row a left (entries.Freed c g at n false) x → Sound (ledger_at a g b) → Sound (ledger_at x g b)
