-- At the end of a repair: what a new session finds has no faults.
use Rattle.std.specs.Prelude.{◌≡◌, ◌<◌, ℕ, true, [], None}
use Rattle.fs_change.specs.Forget.{Forget}
use Rattle.fs_state.specs.Contradiction.{first_bad_fork}
use Rattle.fs_state.specs.Faults.{faults}
use Rattle.fs_model.specs.declared.unit.Unit.{Unit as ScrubUnit}
use Rattle.fs_state.specs.State.{State, is_readable}
use Rattle.geom.specs.Apart.{Splits}
use Rattle.law_repairs.specs.Repair.Alike.{AlikeInside}
use Rattle.law_repairs.specs.Repair.Letters.{IsTrusted, Stands}
use Rattle.sblock.specs.declared.kind.Kind.{Kind}

-- nothing waits in any group of the image: all trees can be read, no block is reserved or in limbo, and all forks can be read
pub record IsDone (a : State) : Type 0 where
  pub readable : (g : ℕ) (k : Kind) → g < a.geometry.agcount → is_readable ((a.group g).tree k).reading ≡ true
  pub reserve : (g : ℕ) → g < a.geometry.agcount → (a.group g).reserve ≡ []
  pub limbo : (g : ℕ) → g < a.geometry.agcount → (a.group g).limbo ≡ []
  pub forks : first_bad_fork a ≡ None

-- then what a new session keeps is all that is read
abbrev pub ForgetsNothing : Type 0
ForgetsNothing = (a b : State) → Splits a.geometry → IsDone a → Forget a b → AlikeInside a b

-- so a unit that stands and is trusted at the end has no faults in what is kept
abbrev pub EndsWithoutFaults : Type 0
EndsWithoutFaults = (a b : State) (g : ℕ) (unit : ScrubUnit) → g < a.geometry.agcount → Splits a.geometry → IsDone a → Forget a b → Stands a g unit → IsTrusted a g unit → faults b g unit ≡ []
