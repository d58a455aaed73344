-- The blocks of one entry more of a free list.
use Rattle.std.proofs.Common.{◌≡◌, ℕ, ◌+◌, ◌<◌, List, [], ◌∷◌, Bool, true, false, length, take, get_or, refl, ap, arith, ◌∙◌, sym}
use Rattle.std.specs.Prelude.{◌==◌, ◌||◌}
use Rattle.std.specs.List.{list_any}
use Rattle.std.proofs.lemmas.Bool.Decides.{nat_tests}
use Rattle.std.proofs.lemmas.List.{take_more}
use Rattle.std.proofs.lemmas.List.Folds.{list_any-append}
use Rattle.run_sets.specs.Runs.{is_within}

-- a block lies in the run of one block where it is that block
pub within_one : (b e : ℕ) → is_within b (record { start = e; count = 1 }) ≡ (b == e)
within_one b e = grind (arith, nat_tests)

or_false : (a : Bool) → (a || false) ≡ a
or_false true = refl
or_false false = refl

-- and in those of one entry more where it is in the others' or is that entry
pub one_more : (b i : ℕ) (es : List ℕ) → i < length es → list_any (λ e. b == e) (take (i + 1) es) ≡ (list_any (λ e. b == e) (take i es) || is_within b (record { start = get_or es i 0; count = 1 }))
one_more b i es h =
    ap (list_any (λ e. b == e)) (take_more es i 0 h)
    ∙ list_any-append (λ e. b == e) (take i es) (get_or es i 0 ∷ [])
    ∙ ap (λ t. list_any (λ e. b == e) (take i es) || t) (or_false (b == get_or es i 0) ∙ sym (within_one b (get_or es i 0)))
