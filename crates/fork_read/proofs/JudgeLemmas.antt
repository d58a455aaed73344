-- The ends of the levels, one level after the other.
use Rattle.std.proofs.Common.{◌≡◌, ℕ, zero, suc, ◌-◌, ◌<◌, true, refl, arith}
use Rattle.std.specs.Prelude.{◌&&◌}
use Rattle.dinode_core.specs.ForkTree.{Trail, ends, ends_at}

pub no_level : (n : ℕ) (t : Trail) → n ≡ 0 → ends n t ≡ true
no_level zero t h = refl
no_level (suc n) t h = absurd (omega arith)

pub one_level : (n : ℕ) (t : Trail) → 0 < n → ends n t ≡ (ends (n - 1) t && ends_at (t.last (n - 1)))
one_level zero t h = absurd (omega arith)
one_level (suc n) t h = let e : suc n - 1 ≡ n = omega arith in rw e refl
