-- What is known of a chain that is idle, or of its next step.
use Rattle.std.specs.Prelude.{◌≡◌, true, List, [], Some}
use Rattle.std.specs.List.{slice_get}
use Rattle.defer_chain.specs.Owed.{owed}
use Rattle.defer_chain.specs.Steps.{count_of_first, first_is, has_run, is_free, is_less, is_ref, is_rmap, step_of}
use Rattle.defer_chain.specs.declared.chain.Chain.{Chain}
use Rattle.defer_chain.specs.declared.kinds.StepKind.{StepKind}
use Rattle.defer_chain.specs.declared.kinds.StepKind.TheVariants as steps
use Rattle.fs_state.specs.declared.intent.Intent.{Intent}

abbrev pub IsIdle : Chain → Type 0
IsIdle c = owed c ≡ []

-- the first intent is of this kind, as the chain's own calls ask for it
abbrev pub IsFirst : StepKind → List Intent → Type 0
IsFirst steps.Rmap is = first_is is_rmap is ≡ true
IsFirst steps.Ref is = first_is is_ref is ≡ true
IsFirst steps.Free is = first_is is_free is ≡ true

-- the first intent is this one, and of this kind
pub record IsNext (kind : StepKind) (is : List Intent) (i : Intent) : Type 0 where
  pub first : slice_get is 0 ≡ Some i
  pub kind_is : step_of i.kind ≡ kind
  pub fits : IsFirst kind is
  pub count : count_of_first is ≡ i.count
  pub less : first_is is_less is ≡ is_less i.kind
  pub run : has_run i ≡ true
