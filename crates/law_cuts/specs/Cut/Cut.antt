-- Edited trees are cut into blocks anew: blocks move between trees, the list and limbo, and mappings follow them. What an
-- entry's row decides of blocks and of chains holds behind the entry too.
use Rattle.std.specs.Prelude.{ℕ, List}
use Rattle.law_accounts.specs.Account.Ledger.{Sound}
use Rattle.law_accounts.specs.Account.Stated.{ledger_at}
use Rattle.fs_change.specs.Step.{Step}
use Rattle.fs_model.specs.declared.entry.Entry.{Entry}
use Rattle.fs_state.specs.State.{State}
use Rattle.geom.specs.Apart.{HasFitting}
use Rattle.law_writers.specs.Held.Held.{AreHolders}
use Rattle.sblock.specs.declared.kind.Kind.{Kind}

-- a block that is sound with the claims of the decided state is so with those of the state behind the entry, in every group
abbrev pub SoundBehind : Type 0
SoundBehind = (a b : State) (left : List Kind) (e : Entry) (h k : ℕ) → HasFitting a.geometry → (s : Step a left e b) → Sound (ledger_at s.decided h k) → Sound (ledger_at b h k)

-- and chains hold what they held
abbrev pub HeldBehind : Type 0
HeldBehind = (a b : State) (left : List Kind) (e : Entry) (held : ℕ → List ℕ) → HasFitting a.geometry → (s : Step a left e b) → AreHolders s.decided held → AreHolders b held
