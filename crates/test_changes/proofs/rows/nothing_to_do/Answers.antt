use Rattle.std.specs.Prelude.{[], ◌∷◌, true, false}
use Rattle.test_changes.proofs.Computing.{computing}
use Rattle.std.proofs.Common.{ap, sym, List, Bool}
use Rattle.std.proofs.lemmas.Bool.{true≢false}
use Rattle.std.proofs.Common.{arith, ◌<◌}
use Rattle.test_changes.proofs.rows.nothing_to_do.Goals as goal

abbrev is_cons : {X : Type 0} → List X → Bool
is_cons [] = false
is_cons (x ∷ xs) = true

no_less : 0 < 0 → ⊥
no_less h = omega arith

pub returns : goal.returns
unfolding computing
returns c = (λ left b s. true≢false (ap is_cons (sym s.row.2.next)), λ left b s. true≢false (sym s.row.0.piece), λ left b s. no_less s.row.0.some)
