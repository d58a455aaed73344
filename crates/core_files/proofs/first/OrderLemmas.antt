-- The intents of a first event are in the order in which a chain takes them.
use Rattle.std.proofs.Common.{◌≡◌, ◌<◌, ◌+◌, ◌^◌, ℕ, true, false, refl, arith}
use Rattle.std.proofs.lemmas.Bool.Decides.{nat_tests}
use Rattle.std.specs.Prelude.{[], ◌∷◌, ◌&&◌, nat_lt}
use Rattle.defer_chain.specs.Steps.{has_run, in_order, is_ref, is_rmap}
use Rattle.fs_state.specs.declared.intent.Intent.{Intent}

runs : (b n : ℕ) → 0 < n → b + n < 2 ^ 32 → (nat_lt 0 n && nat_lt (b + n) (2 ^ 32)) ≡ true
runs b n some ends = grind (arith, nat_tests)

pub one_in_order : (i : Intent) → is_rmap i.kind ≡ true → 0 < i.count → i.block + i.count < 2 ^ 32 → in_order (i ∷ []) ≡ true
unfolding in_order
one_in_order i kind some ends = rw (kind, runs i.block i.count some ends) refl

pub two_in_order : (i j : Intent) → is_rmap i.kind ≡ true → is_rmap j.kind ≡ false → is_ref j.kind ≡ true → 0 < i.count → i.block + i.count < 2 ^ 32 → 0 < j.count → j.block + j.count < 2 ^ 32 → in_order (i ∷ j ∷ []) ≡ true
unfolding in_order
two_in_order i j kind other counts some ends some_too ends_too = rw (kind, other, counts, runs i.block i.count some ends, runs j.block j.count some_too ends_too) refl
