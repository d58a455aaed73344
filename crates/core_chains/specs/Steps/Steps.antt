-- A chain's next step, as the events have it.
use Rattle.std.specs.Prelude.{◌≡◌, ◌<◌, ℕ}
use Rattle.core_parts.specs.declared.desk.Desk.{Desk}
use Rattle.core_chains.specs.Steps.Entries.{IsFirst}
use Rattle.core_chains.specs.declared.steps.asked.Next.{Next}
use Rattle.core_chains.specs.Write.Chains.{IsNext}
use Rattle.defer_chain.specs.Owed.{owed}
use Rattle.defer_chain.specs.declared.kinds.StepKind.{StepKind}

-- the chain has a number, and owes this intent first, for a step of this kind
pub record IsStep (kind : StepKind) (n : Next) : Type 0 where
  pub number : n.number < 16
  pub next : IsNext kind (owed n.chain) n.intent

-- the chain of this number owes it first
pub record IsAsked {D : Type 0} (k : Desk D) (number : ℕ) (n : Next) : Type 0 where
  pub same : n.number ≡ number
  pub first : IsFirst k number n.intent
