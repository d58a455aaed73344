-- Two records share a block where some block is covered by both.
use Rattle.std.proofs.Common.{◌≡◌, ℕ, ◌+◌, Bool, true, false, refl, inl, inr, arith}
use Rattle.std.specs.Prelude.{nat_le, nat_lt, ◌&&◌, ◌||◌, ◌⊎◌}
use Rattle.std.proofs.lemmas.Bool.Decides.{nat_tests}
use Rattle.sblock.specs.Form.{Form}
use Rattle.sblock.specs.Meets.{first_of, both_cover, share_block, SharesABlock}

-- a block of two runs: the first block of one of them is one too
first_is : (a m b n p : ℕ) → ((nat_le a p && nat_lt p (a + m)) && (nat_le b p && nat_lt p (b + n))) ≡ true → (((nat_le a a && nat_lt a (a + m)) && (nat_le b a && nat_lt a (b + n))) || ((nat_le a b && nat_lt b (a + m)) && (nat_le b b && nat_lt b (b + n)))) ≡ true
first_is a m b n p h = grind (arith, nat_tests)

either : (a b : Bool) → (a || b) ≡ true → (a ≡ true) ⊎ (b ≡ true)
either true b h = inl refl
either false b h = inr h

pub shares : {R K : Type 0} (form : Form R K) → SharesABlock form
unfolding share_block
shares form r s = (
  λ h. elim (either (both_cover form r s (first_of form r)) _ h) [ inl one ↦ (first_of form r, one) | inr other ↦ (first_of form s, other) ],
  λ some. first_is (first_of form r) (form.length_of r) (first_of form s) (form.length_of s) some.0 some.1,
)
