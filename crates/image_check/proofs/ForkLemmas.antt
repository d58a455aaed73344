-- A fork that can't be read is the evidence of all reverse mappings.
use Rattle.std.proofs.Common.{◌≡◌, ℕ, [], ◌∷◌, Some}
use Rattle.std.specs.Option.{option_or}
use Rattle.fs_state.specs.Claims.{claims}
use Rattle.fs_state.specs.Contradiction.{evidence, first_bad_fork, first_contradiction, first_later, first_overlap, later_in}
use Rattle.fs_state.specs.Lists.{first_of_all}
use Rattle.fs_model.specs.declared.claim.Evidence.{Evidence}
use Rattle.fs_model.specs.declared.unit.Unit.TheVariants as units
use Rattle.fs_state.specs.State.{State}
use Rattle.sblock.specs.declared.kind.Kind.TheVariants.{Rmap}

pub bad_fork_decides : (a : State) (g : ℕ) (e : Evidence) → first_bad_fork a ≡ Some e → evidence a g units.Rmap ≡ Some e
unfolding evidence first_contradiction first_later
bad_fork_decides a g e bad = λ i. option_or (bad i) (first_of_all (first_of_all (later_in Rmap ((a.group g).tree Rmap).reading ∷ []) ∷ first_overlap a g (claims a g) ∷ []))
