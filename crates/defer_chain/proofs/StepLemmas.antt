-- Intents as a part of an array.
use Rattle.std.proofs.Common.{◌≡◌, ℕ, zero, suc, ◌+◌, ◌-◌, ◌<◌, ◌≤◌, List, [], ◌∷◌, ◌++◌, length, take, drop, get_or, set, refl, sym, ap, ◌∙◌, arith, Some, None, drop-cons}
use Rattle.std.specs.List.{slice_get}
use Rattle.std.proofs.Math.Seq.{take-length}
use Rattle.std.proofs.lemmas.List.{drop-set}
use Rattle.fs_state.specs.declared.intent.Intent.{Intent}
use Rattle.defer_chain.specs.Steps.{steps_in, no_intent}

take_more_than_one : (n : ℕ) (x : Intent) (xs : List Intent) → 0 < n → take n (x ∷ xs) ≡ x ∷ take (n - 1) xs
take_more_than_one zero x xs h = absurd (omega (arith, h))
take_more_than_one (suc n) x xs h = let e : suc n - 1 ≡ n = omega arith in rw e refl

drop_at : (xs : List Intent) (i : ℕ) (d : Intent) → i < length xs → drop i xs ≡ get_or xs i d ∷ drop (i + 1) xs
drop_at xs i d h = let e : suc i ≡ i + 1 = omega arith in drop-cons xs i d h ∙ ap (λ n. get_or xs i d ∷ drop n xs) e

pub step_first : (steps : List Intent) (done end : ℕ) (d : Intent) → done < end → end ≤ length steps → steps_in steps done end ≡ get_or steps done d ∷ steps_in steps (done + 1) end
unfolding steps_in
step_first steps done end d h l =
    let e : end - done - 1 ≡ end - (done + 1) = omega arith in
    ap (take (end - done)) (drop_at steps done d (omega (arith, h, l)))
    ∙ take_more_than_one (end - done) (get_or steps done d) (drop (done + 1) steps) (omega (arith, h))
    ∙ ap (λ n. get_or steps done d ∷ take n (drop (done + 1) steps)) e

pub no_step : (steps : List Intent) (done end : ℕ) → end ≤ done → slice_get (steps_in steps done end) 0 ≡ None
unfolding steps_in
no_step steps done end h = let e : end - done ≡ 0 = omega (arith, h) in ap (λ n. slice_get (take n (drop done steps)) 0) e

pub first_step : (steps : List Intent) (done end : ℕ) (d : Intent) → done < end → end ≤ length steps → slice_get (steps_in steps done end) 0 ≡ Some (get_or steps done d)
first_step steps done end d h l = ap (λ xs. slice_get xs 0) (step_first steps done end d h l)

pub step_set : (steps : List Intent) (done end : ℕ) (y : Intent) → done < end → end ≤ length steps → steps_in (set steps done y) done end ≡ y ∷ steps_in steps (done + 1) end
unfolding steps_in
step_set steps done end y h l =
    let e : end - done - 1 ≡ end - (done + 1) = omega arith in
    ap (take (end - done)) (drop-set steps done y (omega (arith, h, l)))
    ∙ take_more_than_one (end - done) y (drop (done + 1) steps) (omega (arith, h))
    ∙ ap (λ n. y ∷ take n (drop (done + 1) steps)) e

pub no_steps : (steps : List Intent) (done end : ℕ) → end ≤ done → steps_in steps done end ≡ []
unfolding steps_in
no_steps steps done end h = let e : end - done ≡ 0 = omega (arith, h) in ap (λ n. take n (drop done steps)) e

pub steps_are : (steps : List Intent) (end : ℕ) → steps_in steps 0 end ≡ take end steps
unfolding steps_in
steps_are steps end = let e : end - 0 ≡ end = omega arith in ap (λ n. take n steps) e

pub take_whole : (xs : List Intent) (n : ℕ) → n ≡ length xs → take n xs ≡ xs
take_whole xs n e = ap (λ k. take k xs) e ∙ take-length xs
