-- Lists of mappings made one by one.
use Rattle.std.proofs.Common.{◌≡◌, ℕ, Bool, true, false, List, [], ◌∷◌, ◌++◌, refl, sym, ap, ◌∙◌, append_assoc}
use Rattle.std.specs.Prelude.{filter, if◌then◌else◌}
use Rattle.std.specs.List.{flat_map}
use Rattle.dinode_core.specs.declared.mapping.Mapping.{Mapping}
use Rattle.fork_change.specs.Lists.{AllFit, Fits, added, is_side, with_before, with_after, taken, rest_of}

-- one that passes was added, or one that doesn't was left out
pub kept_one : (p : Mapping → Bool) (new old list later : List Mapping) (m : Mapping) → p m ≡ true → (old ++ filter p (m ∷ later)) ≡ list → new ≡ old ++ m ∷ [] → new ++ filter p later ≡ list
kept_one p new old list later m t h e =
    ap (λ xs. xs ++ filter p later) e ∙ append_assoc old (m ∷ []) (filter p later) ∙ ap (λ b. old ++ (if b then m ∷ filter p later else filter p later)) (sym t) ∙ h

pub left_one : (p : Mapping → Bool) (old list later : List Mapping) (m : Mapping) → p m ≡ false → (old ++ filter p (m ∷ later)) ≡ list → old ++ filter p later ≡ list
left_one p old list later m t h = ap (λ b. old ++ (if b then m ∷ filter p later else filter p later)) (sym t) ∙ h

pub rest_one : (f : Mapping → List Mapping) (new old list later : List Mapping) (m : Mapping) → (old ++ flat_map f (m ∷ later)) ≡ list → new ≡ old ++ f m → new ++ flat_map f later ≡ list
rest_one f new old list later m h e = ap (λ xs. xs ++ flat_map f later) e ∙ append_assoc old (f m) (flat_map f later) ∙ h

append_none : (xs : List Mapping) → xs ++ [] ≡ xs
append_none [] = refl
append_none (x ∷ xs) = ap (λ ys. x ∷ ys) (append_none xs)

pub all_done : (xs : List Mapping) → xs ++ [] ≡ xs
all_done xs = append_none xs

pub taken_is : (offset n : ℕ) (ms : List Mapping) → flat_map (rest_of offset n) ms ≡ taken offset n ms
unfolding taken
taken_is offset n ms = refl

pub added_is : (l : ℕ) (m : Mapping) (ms none first second third : List Mapping) (grown whole : Mapping) → none ≡ [] → grown ≡ with_before l m ms → whole ≡ with_after l grown ms → first ≡ none ++ filter (is_side l m grown true) ms → second ≡ first ++ whole ∷ [] → third ≡ second ++ filter (is_side l m grown false) ms → third ≡ added l m ms
unfolding added
added_is l m ms none first second third grown whole z g w a b c =
    c ∙ ap (λ xs. xs ++ filter (is_side l m grown false) ms) (b ∙ ap (λ xs. xs ++ whole ∷ []) (a ∙ ap (λ xs. xs ++ filter (is_side l m grown true) ms) z))
    ∙ append_assoc (filter (is_side l m grown true) ms) (whole ∷ []) (filter (is_side l m grown false) ms)
    ∙ ap (λ x. filter (is_side l m grown true) ms ++ (x ∷ filter (is_side l m grown false) ms)) w
    ∙ ap (λ x. filter (is_side l m x true) ms ++ (with_after l x ms ∷ filter (is_side l m x false) ms)) g

pub fits_both : (xs ys : List Mapping) → AllFit xs → AllFit ys → AllFit (xs ++ ys)
fits_both [] ys h i = i
fits_both (x ∷ xs) ys h i = (h.0, fits_both xs ys h.1 i)

fits_filter : (p : Mapping → Bool) (ms : List Mapping) → AllFit ms → AllFit (filter p ms)
fits_filter p [] h = tt
fits_filter p (m ∷ ms) h = by_test (p m) (fits_filter p ms h.1)
  where
    by_test : (b : Bool) → AllFit (filter p ms) → AllFit (if b then m ∷ filter p ms else filter p ms)
    by_test true later = (h.0, later)
    by_test false later = later

pub added_fits : (l : ℕ) (m : Mapping) (ms : List Mapping) → AllFit ms → Fits (with_after l (with_before l m ms) ms) → AllFit (added l m ms)
unfolding added
added_fits l m ms h f =
    let grown = with_before l m ms in
    fits_both (filter (is_side l m grown true) ms) (with_after l grown ms ∷ filter (is_side l m grown false) ms) (fits_filter (is_side l m grown true) ms h) (f, fits_filter (is_side l m grown false) ms h)
