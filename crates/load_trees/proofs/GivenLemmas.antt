-- What holds of a list and blocks that were tested.
use Rattle.std.proofs.Common.{◌≡◌, ℕ, zero, suc, ◌+◌, ◌-◌, ◌*◌, ◌^◌, ◌<◌, ◌≤◌, Bool, true, false, List, [], ◌∷◌, length, get_or, refl, sym, ap, subst, ◌∙◌, arith}
use Rattle.std.specs.Prelude.{◌==◌, ◌&&◌, nat_le, nat_lt, if◌then◌else◌, slice_index, All}
use Rattle.std.proofs.lemmas.Bool.Decides.{nat_tests}
use Rattle.sblock.specs.Blocks.{AllInside, AreBlocks}
use Rattle.sblock.specs.Form.{Form, IsLawful}
use Rattle.sblock.specs.declared.block.Bounds.{Bounds}
use Rattle.sblock.specs.declared.kind.Kind.{Kind}
use Rattle.tree_defs.specs.Lists.{times, AllDiffer}
use Rattle.bulk_load.specs.Shapes.{width, start, HasLevel, IsShape}
use Rattle.bulk_load.proofs.Numbers.{lt_true, lt_false}

module _ {R K : Type 0} (form : Form R K) (law : IsLawful form) where
  -- a record in range has a greatest key
  pub all_end : (bounds : Bounds) (rs : List R) → bounds.length < 2 ^ 32 → AllInside form bounds rs → All (λ r. form.has_end r ≡ true) rs
  all_end bounds [] short inside k d lt = absurd (omega (arith, lt))
  all_end bounds (r ∷ rs) short inside zero d lt = law.reaches bounds r short inside.0
  all_end bounds (r ∷ rs) short inside (suc k) d lt = all_end bounds rs short inside.1 k d (omega (arith, lt))

below_length : (n b : ℕ) → (nat_le 1 b && nat_lt b n) ≡ true → b < n
below_length n b h = grind (arith, nat_tests)

-- each of these blocks is below the group's length
pub blocks_below : (n : ℕ) (ps : List ℕ) → AreBlocks n ps → (k : ℕ) → k < length ps → slice_index ps k < n
blocks_below n [] all k lt = absurd (omega (arith, lt))
blocks_below n (p ∷ ps) all zero lt = below_length n p all.0
blocks_below n (p ∷ ps) all (suc k) lt = blocks_below n ps all.1 k (omega (arith, lt))

-- a number of records has one shape
module _ (kind : Kind) (n : ℕ) where
  no_higher : (a b x y : ℕ) → IsShape kind n a x → IsShape kind n b y → a < b → ⊥
  no_higher a b x y h i lt = absurd (omega (arith, h.top, i.below (a - 1) (omega (arith, lt, h.some)), h.some))

  same_levels : (a b x y : ℕ) → IsShape kind n a x → IsShape kind n b y → a ≡ b
  same_levels a b x y h i = by_lower (nat_lt a b) refl where
    by_upper : (c : Bool) → nat_lt b a ≡ c → b ≤ a → a ≡ b
    by_upper true e le = absurd (no_higher b a y x i h (lt_true b a e))
    by_upper false e le = omega (arith, le, lt_false b a e)

    by_lower : (c : Bool) → nat_lt a b ≡ c → a ≡ b
    by_lower true e = absurd (no_higher a b x y h i (lt_true a b e))
    by_lower false e = by_upper (nat_lt b a) refl (lt_false a b e)

  pub one_shape : (a b x y : ℕ) → IsShape kind n a x → IsShape kind n b y → x ≡ y
  one_shape a b x y h i = h.all ∙ ap (start kind n) (same_levels a b x y h i) ∙ sym i.all
