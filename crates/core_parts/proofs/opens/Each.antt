-- Lists of what is known of the groups, and the first head that is refused.
use Rattle.std.proofs.Common.{◌≡◌, ◌⊎◌, inl, inr, ℕ, zero, suc, ◌+◌, ◌<◌, List, [], ◌∷◌, ◌++◌, length, get_or, Result, Ok, Err, IsErr, IsErrAnd, subst, sym, arith}
use Rattle.blk_device.specs.Causes.{HasCause, MovesOnly}
use Rattle.fs_state.specs.Kinds.{Image}
use Rattle.geom.specs.Layout.{Layout}
use Rattle.group_trees.specs.Heads.{PassIn}
use Rattle.core_parts.specs.Opens.Heads.{Each, IsFirstRefused, IsOutside, IsRefusedIn, PassBelow, is_failed}
use Rattle.core_calls.specs.declared.answers.OpenRefused.{OpenRefused}
use Rattle.core_calls.specs.declared.answers.OpenRefused.TheVariants.{Group, Failed, Memory}

-- one more
pub each_behind : {X : Type 0} (P : ℕ → X → Type 0) (g k : ℕ) (xs : List X) (x : X) → k + length xs ≡ g → Each P k xs → P g x → Each P k (xs ++ x ∷ [])
each_behind P g k [] x here are is = let e : g ≡ k = omega (arith, here) in (subst (λ n. P n x) e is, tt)
each_behind P g k (y ∷ ys) x here are is = (are.0, each_behind P g (k + 1) ys x (omega (arith, here)) are.1 is)

each_at : {X : Type 0} (P : ℕ → X → Type 0) (g i : ℕ) (d : X) (xs : List X) → i < length xs → Each P g xs → P (g + i) (get_or xs i d)
each_at P g i d [] lt h = absurd (omega (arith, lt))
each_at P g zero d (x ∷ xs) lt h = let e : g ≡ g + 0 = omega arith in subst (λ k. P k x) e h.0
each_at P g (suc i) d (x ∷ xs) lt h = let e : (g + 1) + i ≡ g + suc i = omega arith in subst (λ k. P k (get_or xs i d)) e (each_at P (g + 1) i d xs (omega (arith, lt)) h.1)

-- one among those from the first group on
pub each_among : {X : Type 0} (P : ℕ → X → Type 0) (i : ℕ) (d : X) (xs : List X) → i < length xs → Each P 0 xs → P i (get_or xs i d)
each_among P i d xs lt h = let e : 0 + i ≡ i = omega arith in subst (λ k. P k (get_or xs i d)) e (each_at P 0 i d xs lt h)

-- ---- heads that pass, and the first that doesn't

pub pass_none : (at : Layout) (image : Image) → PassBelow at image 0
pass_none at image g lt = absurd (omega (arith, lt))

below_or : (g n : ℕ) → g < n + 1 → (g < n) ⊎ (n ≡ g)
below_or g n lt = grind arith

pub pass_on : (at : Layout) (image : Image) (n : ℕ) → PassBelow at image n → PassIn at image n → PassBelow at image (n + 1)
pass_on at image n below here g lt = by_place (below_or g n lt)
  where
    by_place : (g < n) ⊎ (n ≡ g) → PassIn at image g
    by_place (inl low) = below g low
    by_place (inr same) = subst (PassIn at image) same here

pub first_refused : (at : Layout) (image : Image) (g : ℕ) (stop : OpenRefused) → g < at.agcount → PassBelow at image g → IsRefusedIn at image g stop → IsFirstRefused at image stop
first_refused at image g (Group h head fault) lt below is =
    let same : g ≡ h = sym is.0 in
    subst (λ n. IsFirstRefused at image (Group n head fault)) same (lt, below, is.1)
first_refused at image g Failed lt below is = tt
first_refused at image g Memory lt below is = tt

pub outside_refused : (at : Layout) (image : Image) (stop : OpenRefused) → IsOutside stop → IsFirstRefused at image stop
outside_refused at image (Group h head fault) out = absurd out
outside_refused at image Failed out = tt
outside_refused at image Memory out = tt

-- ---- answers that `?` hands on

pub with_err : {T : Type 0} (P : Result T OpenRefused → Type 0) (stop : OpenRefused) (result : Result T OpenRefused) → IsErr result × IsErrAnd result (λ e. e ≡ stop) → P (Err stop) → P result
with_err P stop (Ok done) is p = absurd is.1
with_err P stop (Err e) is p = subst (λ (h : OpenRefused). P (Err h)) (sym is.1) p

pub err_cause : {T : Type 0} (before mid now : ℕ) (stop : OpenRefused) (result : Result T OpenRefused) → IsErr result × IsErrAnd result (λ e. e ≡ stop) → mid ≡ before → MovesOnly (is_failed stop) mid now → HasCause is_failed before now result
err_cause before mid now stop (Ok done) is same cause = absurd is.1
err_cause before mid now stop (Err e) is same cause =
    subst (λ (h : OpenRefused). MovesOnly (is_failed h) before now) (sym is.1) (subst (λ (n : ℕ). MovesOnly (is_failed stop) n now) same cause)
