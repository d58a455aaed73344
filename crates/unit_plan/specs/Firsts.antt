-- The first two of some claims.
use Rattle.std.specs.Prelude.{ℕ, List, [], ◌∷◌, Option, Some, None, take}
use Rattle.fs_model.specs.declared.claim.Claim.{Claim}
use Rattle.fs_model.specs.declared.claim.Evidence.{Evidence}
use Rattle.fs_model.specs.declared.claim.Evidence.TheVariants.{Overlap}
use Rattle.unit_plan.specs.declared.order.Firsts.{Firsts}
use Rattle.unit_plan.specs.declared.order.Firsts.TheVariants.{Nothing, One, Two}
use Rattle.unit_plan.specs.Order.{put}

abbrev pub listed : Firsts → List Claim
listed Nothing = []
listed (One c) = c ∷ []
listed (Two c d) = c ∷ d ∷ []

-- claims taken one after the other, of which two are kept
abbrev pub firsts_from : List Claim → List Claim → List Claim
firsts_from kept [] = kept
firsts_from kept (c ∷ cs) = firsts_from (take 2 (put c kept)) cs

-- what is shown of a block with these first two claims
abbrev pub shown_of : ℕ → Firsts → Option Evidence
shown_of b Nothing = None
shown_of b (One c) = None
shown_of b (Two c d) = Some (Overlap b c d)
