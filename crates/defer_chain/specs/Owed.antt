-- What a chain owes.
use Rattle.std.specs.Prelude.{◌≡◌, List}
use Rattle.fs_state.specs.declared.intent.Intent.{Intent}
use Rattle.defer_chain.specs.declared.chain.Chain.{Chain}
use Rattle.defer_chain.specs.Steps.{owed_in}

abbrev pub owed : Chain → List Intent
owed c = owed_in c.free c.steps c.done c.end

-- the chain owes this now, and is of the same writer and inodes
pub record ChangesOwed (old new : Chain) (left : List Intent) : Type 0 where
  pub owes : owed new ≡ left
  pub writer : new.writer ≡ old.writer
  pub first : new.first ≡ old.first
  pub second : new.second ≡ old.second
