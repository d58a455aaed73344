-- No two settled owners of forks differ in the unwritten flag alone, and none do behind a finished step.
use Rattle.std.specs.Prelude.{◌≡◌, ℕ, ◌<◌, true, false, List, ◌∷◌}
use Rattle.fs_model.specs.declared.entry.Entry.TheVariants as entries
use Rattle.rmap_recs.specs.Runs.{has}
use Rattle.rmap_recs.specs.declared.tuples.Tuple.{Tuple}
use Rattle.run_edits.specs.EditLaws.{AreUntied}
use Rattle.sblock.specs.declared.kind.Kind.{Kind}
use Rattle.fs_state.specs.Apart.{is_inode}
use Rattle.fs_state.specs.State.{State}
use Rattle.fs_state.specs.declared.intent.Intent.{Intent}
use Rattle.fs_change.specs.Chains.{Quiet, given_by, most_chains, taken_by}
use Rattle.fs_change.specs.Laws.{fork_owners}
use Rattle.fs_change.specs.Step.{Step}
use Rattle.law_writers.specs.Change.Chunks.{LeavesChunks}
use Rattle.law_writers.specs.Change.Settled.{IsNextOnce, IsOwedOnce}
use Rattle.core_scan.specs.Equation.{IsUntied}
use Rattle.core_scan.specs.Seen.{IsCalm, IsIdle}

-- in a quiet group they are those of forks
abbrev pub UntiedQuiet : Type 0
UntiedQuiet = (a : State) (g : ℕ) → Quiet a g → AreUntied (fork_owners a g) → IsUntied a g

-- Behind a finished step its inode owns what its forks have, where its chain owes no other mapping of it, and all others own
-- what they did.
abbrev pub UntiedFollows : Type 0
UntiedFollows = (a b : State) (left : List Kind) (chain at count g : ℕ) (i : Intent) (rest : List Intent) → IsCalm a → IsCalm b → chain < most_chains → a.chains chain ≡ i ∷ rest → Step a left (entries.RmapDone chain i.ino i.group at count) b
    → LeavesChunks a (entries.RmapDone chain i.ino i.group at count) → IsNextOnce a b g (a.chains chain) → is_inode b i.ino ≡ true → IsIdle b i.ino → AreUntied (fork_owners b g) → IsUntied a g → IsUntied b g

-- What an intent gives and takes is owed once, where no chain owes its inode another mapping behind its step: forks have what it
-- gives, and lack what it takes.
abbrev pub OwedOnceByIdle : Type 0
OwedOnceByIdle = (a b : State) (g : ℕ) (i : Intent) → IsIdle b i.ino → ((t : Tuple) → has (given_by g i) t ≡ true → has (fork_owners a g) t ≡ true) → ((t : Tuple) → has (taken_by g i) t ≡ true → has (fork_owners a g) t ≡ false) → IsOwedOnce a b g i
