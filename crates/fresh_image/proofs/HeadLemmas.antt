-- The logarithm of a group's length, and the free list.
use Rattle.std.proofs.Common.{◌≡◌, ℕ, zero, suc, ◌+◌, ◌-◌, ◌*◌, ◌%◌, ◌^◌, ◌<◌, ◌≤◌, Bool, true, false, refl, sym, ap, ◌∙◌, arith}
use Rattle.std.specs.Prelude.{nat_le, if◌then◌else◌}
use Rattle.std.proofs.Math.Pow.{pow_mono}
use Rattle.std.proofs.lemmas.Bool.Decides.{nat_tests}
use Rattle.ag_headers.specs.Ring.{FreeRing, with_last}
use Rattle.fresh_image.specs.Fresh.{covering_log, group_log, listed, empty_list, fresh_list}

le_true : (a b : ℕ) → a ≤ b → nat_le a b ≡ true
le_true a b h = grind (arith, nat_tests)

le_false : (a b : ℕ) → b < a → nat_le a b ≡ false
le_false a b h = grind (arith, nat_tests)

-- a one that was shifted
pub shifted : (k : ℕ) → k < 28 → 1 * 2 ^ k % 2 ^ 32 ≡ 2 ^ k
shifted k h = let p : 2 ^ k ≤ 2 ^ 27 = pow_mono {i = k} {j = 27} (omega arith) in omega arith

log_here : (more k len : ℕ) → len ≤ 2 ^ k → covering_log (suc more) k len ≡ k
unfolding covering_log
log_here more k len le = ap (λ (t : Bool). if t then k else covering_log more (k + 1) len) (le_true len (2 ^ k) le)

log_next : (more k len : ℕ) → 2 ^ k < len → covering_log (suc more) k len ≡ covering_log more (k + 1) len
unfolding covering_log
log_next more k len lt = ap (λ (t : Bool). if t then k else covering_log more (k + 1) len) (le_false len (2 ^ k) lt)

module _ (k len : ℕ) (so_far : covering_log (28 - k) k len ≡ covering_log 28 0 len) where
  pub log_found : k < 28 → len ≤ 2 ^ k → k ≡ group_log len
  unfolding group_log
  log_found lt le =
      let e : suc (27 - k) ≡ 28 - k = omega (arith, lt) in
      sym (log_here (27 - k) k len le) ∙ (ap (λ (m : ℕ). covering_log m k len) e ∙ so_far)

  pub log_on : k < 28 → 2 ^ k < len → covering_log (28 - (k + 1)) (k + 1) len ≡ covering_log 28 0 len
  log_on lt le =
      let e : suc (28 - (k + 1)) ≡ 28 - k = omega (arith, lt) in
      sym (log_next (28 - (k + 1)) k len le) ∙ (ap (λ (m : ℕ). covering_log m k len) e ∙ so_far)

  pub log_last : 28 ≤ k → k ≤ 28 → 28 ≡ group_log len
  unfolding group_log covering_log
  log_last low high =
      let e : k ≡ 28 = omega (arith, low, high) in
      let z : 28 - k ≡ 0 = omega (arith, low, high) in
      sym e ∙ (sym (ap (λ (m : ℕ). covering_log m k len) z) ∙ so_far)

-- as many entries as were put
pub listed_count : (g k : ℕ) → (listed k (empty_list g)).count ≡ k
unfolding empty_list
listed_count g zero = refl
listed_count g (suc k) = omega (arith, listed_count g k)

pub list_done : (g block : ℕ) (list : FreeRing) → 19 ≤ block → block ≤ 19 → list ≡ listed (block - 7) (empty_list g) → list ≡ fresh_list g
unfolding fresh_list
list_done g block list low high is =
    let e : block - 7 ≡ 12 = omega (arith, low, high) in
    is ∙ ap (λ (k : ℕ). listed k (empty_list g)) e
