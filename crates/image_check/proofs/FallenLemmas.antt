-- The first unit that didn't pass, and what it means that there is none.
use Rattle.std.proofs.Common.{◌≡◌, ℕ, zero, suc, ◌+◌, ◌<◌, ◌≤◌, Bool, true, false, List, [], ◌∷◌, get_or, length, Option, Some, None, refl, ap, sym, ◌∙◌, inl, inr, arith}
use Rattle.std.specs.Prelude.{flat_map, if◌then◌else◌, not}
use Rattle.std.proofs.lemmas.Bool.{cases_eq, false≢true}
use Rattle.check_phases.specs.Entries.{passes_judged}
use Rattle.check_phases.specs.Session.{first_fallen_from, inode_fallen}
use Rattle.fs_state.specs.Lists.{numbers}
use Rattle.fs_model.specs.declared.unit.Unit.TheVariants as units
use Rattle.fs_state.specs.Kinds.{Image}
use Rattle.geom.specs.Layout.{Layout}
use Rattle.inode_pass.specs.Units.{opened_state}
use Rattle.check_phases.specs.Phases.{phase_passes}
use Rattle.image_check.specs.Checked.{AllPass, IsFirstFallen}

none_from : (k : ℕ) (ps : List Bool) → ((h : ℕ) → h < length ps → get_or ps h true ≡ true) → first_fallen_from k ps ≡ None
none_from k [] all = refl
none_from k (p ∷ ps) all =
    let one = all 0 (omega arith) in
    let rest = none_from (k + 1) ps (λ h lt. all (suc h) (omega (arith, lt))) in
    λ i. if one i then rest i else Some k

some_from : (k g : ℕ) (ps : List Bool) → get_or ps g true ≡ false → ((h : ℕ) → h < g → get_or ps h true ≡ true) → first_fallen_from k ps ≡ Some (k + g)
some_from k g [] fell all = absurd (false≢true (sym fell))
some_from k zero (p ∷ ps) fell all = let here : k ≡ k + 0 = omega arith in (λ i. if fell i then first_fallen_from (k + 1) ps else Some k) ∙ ap (λ (n : ℕ). Some n) here
some_from k (suc g) (p ∷ ps) fell all =
    let one = all 0 (omega arith) in
    let rest = some_from (k + 1) g ps fell (λ h lt. all (suc h) (omega (arith, lt))) in
    let there : (k + 1) + g ≡ k + suc g = omega arith in
    (λ i. if one i then rest i else Some k) ∙ ap (λ (n : ℕ). Some n) there

pub fallen_is : (ps : List Bool) (n : ℕ) (o : Option ℕ) → length ps ≡ n → IsFirstFallen ps n o → o ≡ first_fallen_from 0 ps
fallen_is ps n None long is = sym (none_from 0 ps (λ h lt. is h (omega (arith, lt, long))))
fallen_is ps n (Some g) long is = let zero_more : 0 + g ≡ g = omega arith in sym (some_from 0 g ps is.1 is.2 ∙ ap (λ (m : ℕ). Some m) zero_more)

-- ---- no inodes fell

pub some_none : (n : ℕ) → ◌≡◌ {A = Option ℕ} (Some n) None → ⊥
some_none n e = cc

all_from : (f : ℕ → Bool) (k n : ℕ) → first_fallen_from k (flat_map (λ g. f g ∷ []) (numbers k n)) ≡ None → (h : ℕ) → k ≤ h → h < k + n → f h ≡ true
all_from f k zero none h le lt = absurd (omega (arith, le, lt))
all_from f k (suc n) none h le lt = by_test (λ e. all_from f (k + 1) n e h) (f k) refl none where
  by_test : (first_fallen_from (k + 1) (flat_map (λ g. f g ∷ []) (numbers (k + 1) n)) ≡ None → k + 1 ≤ h → h < (k + 1) + n → f h ≡ true) → (b : Bool) → f k ≡ b → (if b then first_fallen_from (k + 1) (flat_map (λ g. f g ∷ []) (numbers (k + 1) n)) else Some k) ≡ None → f h ≡ true
  by_test later false is e = absurd (some_none k e)
  by_test later true is e = elim (cases_eq k h) [
    | inl same ↦ ap f (sym same) ∙ is
    | inr differ ↦ later e (omega (arith, le, differ)) (omega (arith, lt))
  ]

pub all_pass : (at : Layout) (image : Image) → inode_fallen (opened_state at image) ≡ None → AllPass at image
unfolding phase_passes
all_pass at image none g lt = all_from (λ h. passes_judged (opened_state at image) h units.Inode) 0 at.agcount none g (omega arith) (omega (arith, lt))

-- ---- one unit more

pub that_passed : (b : Bool) → not b ≡ false → b ≡ true
that_passed true e = refl
that_passed false e = absurd (false≢true (sym e))

pub that_fell : (b : Bool) → not b ≡ true → b ≡ false
that_fell true e = absurd (false≢true e)
that_fell false e = refl

pub one_further : (ps : List Bool) (g : ℕ) → ((h : ℕ) → h < g → get_or ps h true ≡ true) → get_or ps g true ≡ true → (h : ℕ) → h < g + 1 → get_or ps h true ≡ true
one_further ps g all one h lt = elim (cases_eq h g) [
  | inl same ↦ ap (λ (n : ℕ). get_or ps n true) same ∙ one
  | inr differ ↦ all h (omega (arith, lt, differ))
]
