-- What a transaction holds after a write behind a joined block, for those who join.
use Rattle.std.proofs.Common.{◌≡◌, ◌<◌, Bool, true, false, ℕ, List, [], ◌∷◌, refl, sym, ◌∙◌, ap, arith, Option, Some, cond, nat_eq, eqb-true}
use Rattle.std.specs.Prelude.{nat_lt, ◌==◌, unwrap_or, if◌then◌else◌}
use Rattle.std.proofs.lemmas.Bool.Decides.{nat_tests}
use Rattle.redo_area.specs.Area.{Batch, Blocks}
use Rattle.meta_txn.specs.Joined.{Joined, bytes_at, with_block, written, AreBelow}

above : (a b : ℕ) → nat_lt b a ≡ true → nat_eq a b ≡ false
above a b lt = grind (arith, nat_tests)

passed : {A : Type 0} (t : Bool) (x y : A) → t ≡ false → cond t x y ≡ y
passed true x y e = cc e
passed false x y e = refl

-- the bytes at this number are the new ones, and at any other as they were
pub bytes_at_with : (b at : ℕ) (bytes : List ℕ) (ps : Batch) → bytes_at b (with_block at bytes ps) ≡ (if b == at then Some bytes else bytes_at b ps)
bytes_at_with b at bytes [] = refl
bytes_at_with b at bytes (p ∷ ps) =
    (elim (nat_lt p.0 at) as (λ t. nat_lt p.0 at ≡ t → bytes_at b (if t then p ∷ with_block at bytes ps else (if p.0 == at then (at, bytes) ∷ ps else (at, bytes) ∷ p ∷ ps)) ≡ (if b == at then Some bytes else bytes_at b (p ∷ ps))) [
      | true ↦ λ lt. ap (cond (nat_eq b p.0) (Some p.1)) (bytes_at_with b at bytes ps) ∙ swapped (above at p.0 lt)
      | false ↦ λ not_lt. (elim (p.0 == at) as (λ t. (p.0 == at) ≡ t → bytes_at b (if t then (at, bytes) ∷ ps else (at, bytes) ∷ p ∷ ps) ≡ (if b == at then Some bytes else bytes_at b (p ∷ ps))) [
        | true ↦ λ is. over (ap (nat_eq b) (eqb-true p.0 at is))
        | false ↦ λ isnt. refl
      ]) refl
    ]) refl
  where
    -- of two numbers that differ, b is one at most
    swapped : nat_eq at p.0 ≡ false → cond (nat_eq b p.0) (Some p.1) (if b == at then Some bytes else bytes_at b ps) ≡ (if b == at then Some bytes else cond (nat_eq b p.0) (Some p.1) (bytes_at b ps))
    swapped differ = (elim (b == at) as (λ t. (b == at) ≡ t → cond (nat_eq b p.0) (Some p.1) (if t then Some bytes else bytes_at b ps) ≡ (if t then Some bytes else cond (nat_eq b p.0) (Some p.1) (bytes_at b ps))) [
      | true ↦ λ is. passed (nat_eq b p.0) (Some p.1) (Some bytes) (ap (λ (n : ℕ). nat_eq n p.0) (eqb-true b at is) ∙ differ)
      | false ↦ λ isnt. refl
    ]) refl

    over : nat_eq b p.0 ≡ nat_eq b at → (if b == at then Some bytes else bytes_at b ps) ≡ (if b == at then Some bytes else cond (nat_eq b p.0) (Some p.1) (bytes_at b ps))
    over same = (elim (b == at) as (λ t. (b == at) ≡ t → (if t then Some bytes else bytes_at b ps) ≡ (if t then Some bytes else cond (nat_eq b p.0) (Some p.1) (bytes_at b ps))) [
      | true ↦ λ is. refl
      | false ↦ λ isnt. sym (passed (nat_eq b p.0) (Some p.1) (bytes_at b ps) (same ∙ isnt))
    ]) refl

-- so is what a commit makes of the image
pub written_with : (image : Blocks) (txn : Joined) (b at : ℕ) (bytes : List ℕ) → written image (record txn { blocks = with_block at bytes txn.blocks }) b ≡ (if b == at then bytes else written image txn b)
written_with image txn b at bytes =
    ap (λ (o : Option (List ℕ)). unwrap_or o (image b)) (bytes_at_with b at bytes txn.blocks)
    ∙ (elim (b == at) as (λ t. unwrap_or (if t then Some bytes else bytes_at b txn.blocks) (image b) ≡ (if t then bytes else unwrap_or (bytes_at b txn.blocks) (image b))) [ true ↦ refl | false ↦ refl ])

-- each number is still below the size
pub below_with : (size at : ℕ) (bytes : List ℕ) (ps : Batch) → AreBelow size ps → at < size → AreBelow size (with_block at bytes ps)
below_with size at bytes [] below lt = (lt, tt)
below_with size at bytes (p ∷ ps) (here, below) lt =
    elim (nat_lt p.0 at) as (λ t. AreBelow size (if t then p ∷ with_block at bytes ps else (if p.0 == at then (at, bytes) ∷ ps else (at, bytes) ∷ p ∷ ps))) [
      | true ↦ (here, below_with size at bytes ps below lt)
      | false ↦ elim (p.0 == at) as (λ t. AreBelow size (if t then (at, bytes) ∷ ps else (at, bytes) ∷ p ∷ ps)) [ true ↦ (lt, below) | false ↦ (lt, (here, below)) ]
    ]
