-- One slot more of a block was written.
use Rattle.std.proofs.Common.{◌≡◌, ◌≢◌, ℕ, ◌+◌, ◌<◌, List, inl, inr, sym, subst, arith}
use Rattle.std.proofs.lemmas.Bool.{cases_order}
use Rattle.inode_table.specs.Cores.{slot_of}

pub slots_more : (P : ℕ → List ℕ → Type 0) (n : ℕ) (old new : List ℕ) → ((s : ℕ) → s < n → P s (slot_of old s)) → P n (slot_of new n) → ((s : ℕ) → s ≢ n → slot_of new s ≡ slot_of old s) → (s : ℕ) → s < n + 1 → P s (slot_of new s)
slots_more P n old new before here others s below = elim (cases_order s n) [
  | inl same ↦ let Q : ℕ → Type 0 = λ x. P x (slot_of new x) in subst Q (sym same) here
  | inr apart ↦ elim apart [
    | inl less ↦ let R : List ℕ → Type 0 = λ x. P s x in subst R (sym (others s (omega (arith, less)))) (before s less)
    | inr more ↦ absurd (let h = below in omega (arith, h, more))
  ]
]
