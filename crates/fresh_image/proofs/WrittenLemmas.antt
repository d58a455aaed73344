-- The blocks of a new image, put one after the other.
use Rattle.std.proofs.Common.{◌≡◌, ℕ, zero, suc, ◌+◌, ◌*◌, ◌<◌, ◌≤◌, Bool, true, false, List, Option, Some, None, Result, Ok, Err, refl, sym, ap, subst, ◌∙◌, arith}
use Rattle.std.specs.Prelude.{⊤, ◌==◌, if◌then◌else◌, OnOk}
use Rattle.std.proofs.lemmas.Bool.Decides.{nat_tests}
use Rattle.blk_device.specs.Contents.{Contents, InDoubt, Becomes, Doubts, map_told, put}
use Rattle.blk_device.specs.declared.device.Region.{Region}
use Rattle.blk_device.specs.declared.device.Region.TheVariants.{Image, Redo}
use Rattle.blk_device.proofs.Told.{becomes_by}
use Rattle.fresh_image.specs.Fresh.{fresh}
use Rattle.fresh_image.specs.Written.{put_fresh, AllButFresh, OthersStay, BecomesFresh}

eq_true : (a b : ℕ) → (a == b) ≡ true → a ≡ b
eq_true a b h = grind (arith, nat_tests)

eq_false : (a b : ℕ) → (a == b) ≡ false → a ≡ b → ⊥
eq_false a b h e = grind (arith, nat_tests)

module _ (n len : ℕ) where
  there : (k b : ℕ) (c : Contents) → b < k → put_fresh n len k c Image b ≡ fresh n len b
  there zero b c lt = absurd (omega (arith, lt))
  there (suc k) b c lt = by_place (b == k) refl (λ low. there k b c low) where
    by_place : (t : Bool) → (b == k) ≡ t → (b < k → put_fresh n len k c Image b ≡ fresh n len b) → (if t then fresh n len k else put_fresh n len k c Image b) ≡ fresh n len b
    by_place true h before = ap (fresh n len) (sym (eq_true b k h))
    by_place false h before = before (below b k lt (eq_false b k h)) where
      below : (x y : ℕ) → x < suc y → (x ≡ y → ⊥) → x < y
      below x y l ne = omega (arith, l, ne)

  beyond : (k b : ℕ) (c : Contents) → k ≤ b → put_fresh n len k c Image b ≡ c Image b
  beyond zero b c le = refl
  beyond (suc k) b c le = by_place (b == k) refl (beyond k b c (omega (arith, le))) where
    by_place : (t : Bool) → (b == k) ≡ t → put_fresh n len k c Image b ≡ c Image b → (if t then fresh n len k else put_fresh n len k c Image b) ≡ c Image b
    by_place true h before = absurd (omega (arith, le, eq_true b k h))
    by_place false h before = before

  in_redo : (k b : ℕ) (c : Contents) → put_fresh n len k c Redo b ≡ c Redo b
  in_redo zero b c = refl
  in_redo (suc k) b c = in_redo k b c

  others_put : (k : ℕ) (c : Contents) → k ≤ n * len → OthersStay n len c (put_fresh n len k c)
  others_put k c le Image b out = beyond k b c (omega (arith, le, out))
  others_put k c le Redo b out = in_redo k b c

  -- so many blocks were put
  pub others_by : (k : ℕ) (old new : Option Contents) → k ≤ n * len → new ≡ map_told (put_fresh n len k) old → Becomes old new (OthersStay n len)
  others_by k old new le is = becomes_by (put_fresh n len k) old new (OthersStay n len) is (λ c told. others_put k c le)

  -- and all of them
  pub all_by : (old new : Option Contents) → new ≡ map_told (put_fresh n len (n * len)) old → Becomes old new (BecomesFresh n len)
  all_by old new is = becomes_by (put_fresh n len (n * len)) old new (BecomesFresh n len) is (λ c told. record {
    image = λ b lt. there (n * len) b c lt;
    others = others_put (n * len) c (omega arith);
  })

  -- and then one block was in doubt
  pub others_doubted : (at : ℕ) (a b c : Option Contents) → at < n * len → Becomes a b (OthersStay n len) → Doubts Image at b c → Becomes a c (OthersStay n len)
  others_doubted at None None None lt first second = tt
  others_doubted at None None (Some z) lt first second = second
  others_doubted at None (Some y) c lt first second = absurd first
  others_doubted at (Some x) None c lt first second = absurd first
  others_doubted at (Some x) (Some y) None lt first second = second
  others_doubted at (Some x) (Some y) (Some z) lt first second = both where
    apart : (r : Region) (b : ℕ) → AllButFresh n len r b → (r ≡ Image) × (b ≡ at) → ⊥
    apart Image b out here = absurd (omega (arith, out, lt, here.1))
    apart Redo b out here = cc here.0

    both : OthersStay n len x z
    both r b out = second r b (apart r b out) ∙ first r b out

  -- one block more was put
  pub put_more : (k : ℕ) (bytes : List ℕ) (first old new : Option Contents) → bytes ≡ fresh n len k → new ≡ map_told (put Image k bytes) old → old ≡ map_told (put_fresh n len k) first → new ≡ map_told (put_fresh n len (suc k)) first
  put_more k bytes first old new is put_in so_far =
      put_in ∙ (ap (λ (xs : List ℕ). map_told (put Image k xs) old) is ∙ (ap (map_told (put Image k (fresh n len k))) so_far ∙ twice first)) where
        twice : (told : Option Contents) → map_told (put Image k (fresh n len k)) (map_told (put_fresh n len k) told) ≡ map_told (put_fresh n len (suc k)) told
        twice None = refl
        twice (Some c) = refl

-- what holds whatever the answer is
pub always : {A E : Type 0} {P : Type 0} (r : Result A E) → P → OnOk r P
always (Ok x) h = h
always (Err e) h = tt
