-- The made blocks of a draft stay blocks of the group.
use Rattle.std.proofs.Common.{◌≡◌, ℕ, ◌<◌, Bool, true, false, List, [], ◌∷◌, ◌++◌, arith}
use Rattle.std.specs.Prelude.{nat_lt, if◌then◌else◌, filter}
use Rattle.std.proofs.lemmas.Bool.Decides.{nat_tests}
use Rattle.byte_fields.specs.declared.block.Block.{Block}
use Rattle.place_apply.specs.Drafts.{ArePlacedInside}

one_kept : (len : ℕ) (kept : Bool) (e : ℕ × Block) (es : List (ℕ × Block)) → nat_lt e.0 len ≡ true → ArePlacedInside len es → ArePlacedInside len (if kept then e ∷ es else es)
one_kept len true e es here rest = (here, rest)
one_kept len false e es here rest = rest

-- those that are left
pub left_inside : (len : ℕ) (test : ℕ × Block → Bool) (es : List (ℕ × Block)) → ArePlacedInside len es → ArePlacedInside len (filter test es)
left_inside len test [] all = tt
left_inside len test (e ∷ es) all = one_kept len (test e) e (filter test es) all.0 (left_inside len test es all.1)

-- and with one more
pub put_inside : (len : ℕ) (es : List (ℕ × Block)) (p : ℕ) (block : Block) → p < len → ArePlacedInside len es → ArePlacedInside len (es ++ (p, block) ∷ [])
put_inside len [] p block lt all = let t : nat_lt p len ≡ true = grind (arith, nat_tests) in (t, tt)
put_inside len (e ∷ es) p block lt all = (all.0, put_inside len es p block lt all.1)
