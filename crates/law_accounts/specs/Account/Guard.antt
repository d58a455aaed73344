-- A run that is to be freed has no owner: where each of its blocks is sound, the guard lets it pass.
use Rattle.std.specs.Prelude.{ℕ, ◌≡◌, ◌<◌, Bool, true, false, List}
use Rattle.fs_change.specs.Chains.{most_chains}
use Rattle.fs_change.specs.Parts.{sick_in}
use Rattle.fs_change.specs.Step.{Row}
use Rattle.fs_model.specs.declared.entry.Entry.TheVariants as entries
use Rattle.fs_state.specs.State.{State}
use Rattle.sblock.specs.declared.kind.Kind.{Kind}
use Rattle.sblock.specs.declared.kind.Kind.TheVariants.{Rmap}
use Rattle.law_accounts.specs.Account.Accounts.{in_span, ledger_of}
use Rattle.law_accounts.specs.Account.Ledger.{Sound}

-- each of these blocks is sound
abbrev pub AreSound : State → ℕ → ℕ → ℕ → Type 0
AreSound a g at n = (b : ℕ) → in_span at n b ≡ true → (owned : ℕ) × (alone : ℕ) × Sound (ledger_of a g b owned alone)

abbrev pub GuardPasses : Type 0
GuardPasses = (a x : State) (left : List Kind) (c g at n : ℕ) (kept : Bool) → c < most_chains → sick_in (a.group g) Rmap ≡ false → AreSound a g at n
    → Row a left (entries.Freed c g at n kept) x → kept ≡ false
