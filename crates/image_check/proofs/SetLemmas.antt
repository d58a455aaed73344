-- One set taken out of those of all groups.
use Rattle.std.proofs.Common.{◌≡◌, ℕ, zero, suc, ◌<◌, List, [], ◌∷◌, length, get_or, set, refl, arith}
use Rattle.fork_pass.specs.Sets.{pieces_at}
use Rattle.unit_plan.specs.Sets.{pieces_of}
use Rattle.unit_plan.specs.declared.claims.ClaimSet.{ClaimSet}

pub one_taken : (sets : List ClaimSet) (i : ℕ) (d : ClaimSet) → i < length sets → pieces_of (get_or sets i d) ≡ pieces_at sets i
unfolding pieces_at
one_taken [] i d lt = absurd (omega (arith, lt))
one_taken (s ∷ ss) zero d lt = refl
one_taken (s ∷ ss) (suc i) d lt = one_taken ss i d (omega (arith, lt))

pub others_stay : (sets : List ClaimSet) (i h : ℕ) (s : ClaimSet) → i < h → pieces_at (set sets i s) h ≡ pieces_at sets h
unfolding pieces_at
others_stay [] i h s lt = refl
others_stay (x ∷ xs) zero zero s lt = absurd (omega (arith, lt))
others_stay (x ∷ xs) zero (suc h) s lt = refl
others_stay (x ∷ xs) (suc i) zero s lt = absurd (omega (arith, lt))
others_stay (x ∷ xs) (suc i) (suc h) s lt = others_stay xs i h s (omega (arith, lt))
