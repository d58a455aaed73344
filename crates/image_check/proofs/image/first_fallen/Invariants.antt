use Rattle.std.proofs.Common.{◌≡◌, ◌<◌, ℕ, get_or, true}
use Rattle.image_check.proofs.image.first_fallen.Given as goal

-- all units so far passed
abbrev pub invariant-loop-g : goal.invariant-loop-g
invariant-loop-g l = (h : ℕ) → h < l.g → get_or l.passed h true ≡ true
