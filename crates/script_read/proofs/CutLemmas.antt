-- A line's words by the place of its first space.
use Rattle.std.proofs.Common.{◌≡◌, ◌≢◌, zero, suc, true, false, List, [], ◌∷◌, ℕ, length, take, drop, ◌-◌, ◌+◌, ◌∙◌, refl, ap, sym, subst, arith}
use Rattle.std.proofs.lemmas.List.{take_rest}
use Rattle.std.specs.Prelude.{◌==◌, if◌then◌else◌}
use Rattle.script_defs.specs.Words.{Text, words, in_front}
use Rattle.script_read.specs.Cuts.{word_length}

-- without a space the line is its one word
pub whole : (bs : Text) → word_length bs ≡ length bs → words bs ≡ bs ∷ []
unfolding words word_length
whole [] e = refl
whole (b ∷ bs) e = (elim (b == 32) as (λ t. (if t then zero else suc (word_length bs)) ≡ suc (length bs) → (if t then [] ∷ words bs else in_front b (words bs)) ≡ (b ∷ bs) ∷ []) [
  | true ↦ λ h. absurd (omega (arith, h))
  | false ↦ λ h. ap (in_front b) (whole bs (omega (arith, h)))
]) e

-- with one it is the word before it, and the words behind it
pub parted : (bs : Text) → word_length bs ≢ length bs → words bs ≡ take (word_length bs) bs ∷ words (drop (suc (word_length bs)) bs)
unfolding words word_length
parted [] n = absurd (n refl)
parted (b ∷ bs) n = (elim (b == 32) as (λ t. (if t then zero else suc (word_length bs)) ≢ suc (length bs) → (if t then [] ∷ words bs else in_front b (words bs)) ≡ take (if t then zero else suc (word_length bs)) (b ∷ bs) ∷ words (drop (suc (if t then zero else suc (word_length bs))) (b ∷ bs))) [
  | true ↦ λ h. refl
  | false ↦ λ h. ap (in_front b) (parted bs (λ e. h (ap suc e)))
]) n

pub cut_at : (bs : Text) (k : ℕ) → k ≡ word_length bs → k ≢ length bs → words bs ≡ take k bs ∷ words (take (length bs - (k + 1)) (drop (k + 1) bs))
cut_at bs k e n =
    let at : words bs ≡ take (word_length bs) bs ∷ words (drop (suc (word_length bs)) bs) = parted bs (λ h. n (e ∙ h)) in
    let more : suc (word_length bs) ≡ k + 1 = omega (arith, e) in
    let behind : words bs ≡ take (word_length bs) bs ∷ words (drop (k + 1) bs) = subst (λ (i : ℕ). words bs ≡ take (word_length bs) bs ∷ words (drop i bs)) more at in
    let front : words bs ≡ take k bs ∷ words (drop (k + 1) bs) = subst (λ (i : ℕ). words bs ≡ take i bs ∷ words (drop (k + 1) bs)) (sym e) behind in
    rw take_rest front

fronted : (b : ℕ) (ws : List Text) → (w : Text) × (vs : List Text) × (in_front b ws ≡ w ∷ vs)
fronted b [] = (b ∷ [], [], refl)
fronted b (w ∷ ws) = (b ∷ w, ws, refl)

-- a text has a first word
pub has_first : (bs : Text) → (w : Text) × (vs : List Text) × (words bs ≡ w ∷ vs)
unfolding words
has_first [] = ([], [], refl)
has_first (b ∷ bs) = elim (b == 32) as (λ t. (w : Text) × (vs : List Text) × ((if t then [] ∷ words bs else in_front b (words bs)) ≡ w ∷ vs)) [
  | true ↦ ([], words bs, refl)
  | false ↦ fronted b (words bs)
]

pub two : (bs : Text) (v : Text) (more : Text) → words bs ≡ v ∷ words more → (x : Text) × (w : Text) × (vs : List Text) × (words bs ≡ x ∷ w ∷ vs)
two bs v more e = let h = has_first more in (v, h.0, h.1, e ∙ ap (λ (ws : List Text). v ∷ ws) h.2)
