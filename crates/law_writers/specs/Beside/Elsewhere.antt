-- Each entry of a writer keeps the blocks of other groups sound, with the claims that the state has: one entry, and what an
-- event has of it.
use Rattle.std.specs.Prelude.{ℕ, ◌≡◌, ◌==◌, ◌<◌, true, false, List, Some, None}
use Rattle.law_accounts.specs.Account.Firsts.{run_shared}
use Rattle.law_accounts.specs.Account.Ledger.{Sound}
use Rattle.law_accounts.specs.Account.Stated.{ledger_at}
use Rattle.law_writers.specs.Change.Chunks.{LeavesChunks}
use Rattle.law_writers.specs.Change.Forks.{IsRunAt, IsSound}
use Rattle.fs_change.specs.Chains.{most_chains}
use Rattle.fs_change.specs.Changes.{extent_of}
use Rattle.fs_change.specs.Laws.{AreWords}
use Rattle.fs_change.specs.Step.{group_of_entry, group_of_inode}
use Rattle.fs_model.specs.declared.entry.Entry.{Entry}
use Rattle.fs_model.specs.declared.entry.Entry.TheVariants as entries
use Rattle.fs_state.specs.State.{State, is_readable}
use Rattle.geom.specs.Apart.{HasFitting}
use Rattle.law_writers.specs.Run.Found.{IsMade}
use Rattle.sblock.specs.declared.kind.Kind.{Kind}
use Rattle.sblock.specs.declared.kind.Kind.TheVariants.{Ino}

-- What is asked of an entry? Of a first event that the forks which it changes are in order and its run lies in a group; of
-- a finished step that its chain is one; of one that makes a chunk that the inode btree can be read.
abbrev pub IsAsked : State → State → Entry → Type 0
IsAsked a x (entries.Mapped m) = IsSound a m.ino × IsRunAt a (extent_of m) m.offset
IsAsked a x (entries.Unmapped m) = IsSound a m.ino × IsRunAt a (extent_of m) m.offset
IsAsked a x (entries.Converted m) = IsSound a m.ino × IsRunAt a (extent_of m) m.offset
IsAsked a x (entries.Shared m) = IsSound a m.to × IsRunAt a (run_shared m) m.to_offset
IsAsked a x (entries.RmapDone c ino g b n) = (c < most_chains) × LeavesChunks a (entries.RmapDone c ino g b n)
IsAsked a x (entries.RefDone c g b n more) = c < most_chains
IsAsked a x (entries.Freed c g b n kept) = c < most_chains
IsAsked a x (entries.Taken writer ino uid None) = Unit {0}
IsAsked a x (entries.Taken writer ino uid (Some b)) = AreWords (x.group (group_of_inode a ino)) × (is_readable ((a.group (group_of_inode a ino)).tree Ino).reading ≡ true)
IsAsked a x (entries.Given writer ino) = Unit {0}
IsAsked a x (entries.Refilled e) = Unit {0}
IsAsked a x (entries.Trimmed e) = Unit {0}
IsAsked a x (entries.Marked g k cause) = Unit {0}
IsAsked a x (entries.Reply writer line code done refused begun) = Unit {0}
IsAsked a x e = ⊥

abbrev pub ElsewhereKept : Type 0
ElsewhereKept = (a x : State) (left : List Kind) (e : Entry) (h b : ℕ) → HasFitting a.geometry → IsMade a x left e → IsAsked a x e → (h == group_of_entry a e) ≡ false → Sound (ledger_at a h b) → Sound (ledger_at x h b)
