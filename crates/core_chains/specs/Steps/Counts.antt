-- A stretch of a reference count that a step changes.
use Rattle.std.specs.Prelude.{◌≡◌, ◌<◌, ◌≤◌, ⊤, ℕ, true}
use Rattle.core_chains.specs.declared.steps.counts.Done.{Done}
use Rattle.core_chains.specs.declared.steps.stretch.Sought.{Sought}
use Rattle.core_chains.specs.declared.steps.stretch.Sought.TheVariants as sought
use Rattle.defer_chain.specs.Steps.{is_less}
use Rattle.fs_state.specs.declared.intent.Intent.{Intent}

-- it isn't empty, and lies in a run of so many blocks
pub record IsPart (count most : ℕ) : Type 0 where
  pub some : 0 < count
  pub inside : count ≤ most

abbrev pub IsFound : ℕ → Sought → Type 0
IsFound most (sought.Found span) = IsPart span.count most
IsFound most (sought.Met cause) = ⊤

-- a step may do so: a stretch leaves the intent, and its blocks are freed only where counts fall
pub record IsDone (i : Intent) (d : Done) : Type 0 where
  pub part : IsPart d.count i.count
  pub falls : d.frees ≡ true → is_less i.kind ≡ true
