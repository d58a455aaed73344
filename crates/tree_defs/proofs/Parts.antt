-- Chains and records in two parts, and the outcomes of a walk's steps.
use Rattle.std.proofs.Common.{◌≡◌, ℕ, suc, ◌-◌, Bool, true, false, cond, List, [], ◌∷◌, ◌++◌, length, Option, Some, None, Result, Ok, Err, refl, ap, arith}
use Rattle.std.specs.Prelude.{slice_get, if◌then◌else◌}
use Rattle.sblock.specs.Blocks.{IsRising}
use Rattle.sblock.specs.Form.{Form}
use Rattle.sblock.specs.declared.block.BlockFault.{BlockFault}
use Rattle.tree_defs.specs.Levels.{IsChain, last_right, RisesAfter}
use Rattle.sblock.specs.Headers.{right_of}
use Rattle.tree_defs.specs.Tree.{Trail, Entry, Read, sooner, agrees, tested}
use Rattle.sblock.specs.declared.spans.Span.{Span}

abbrev pub last_block : ℕ → List ℕ → ℕ
last_block before [] = before
last_block before (p ∷ ps) = last_block p ps

abbrev pub last_rec : {R : Type 0} → Option R → List R → Option R
last_rec q [] = q
last_rec q (r ∷ rs) = last_rec (Some r) rs

pub last_block_append : (before : ℕ) (xs ys : List ℕ) → last_block before (xs ++ ys) ≡ last_block (last_block before xs) ys
last_block_append before [] ys = refl
last_block_append before (x ∷ xs) ys = last_block_append x xs ys

pub last_right_append : (m : ℕ → List ℕ) (next : ℕ) (xs ys : List ℕ) → last_right m next (xs ++ ys) ≡ last_right m (last_right m next xs) ys
last_right_append m next [] ys = refl
last_right_append m next (x ∷ xs) ys = last_right_append m (right_of (m x)) xs ys

pub last_rec_append : {R : Type 0} (q : Option R) (xs ys : List R) → last_rec q (xs ++ ys) ≡ last_rec (last_rec q xs) ys
last_rec_append q [] ys = refl
last_rec_append q (x ∷ xs) ys = last_rec_append (Some x) xs ys

pub last_is : {R : Type 0} (rs : List R) → slice_get rs (length rs - 1) ≡ last_rec None rs
last_is [] = refl
last_is (x ∷ []) = refl
last_is (x ∷ y ∷ ys) = let e : suc (suc (length ys)) - 1 ≡ suc (suc (length ys) - 1) = omega arith in rw e (last_is (y ∷ ys))

module _ (m : ℕ → List ℕ) where
  pub chain_join : (before next : ℕ) (xs ys : List ℕ) → IsChain m before next xs → IsChain m (last_block before xs) (last_right m next xs) ys → IsChain m before next (xs ++ ys)
  chain_join before next [] ys first second = second
  chain_join before next (x ∷ xs) ys first second = (first.0, first.1, chain_join x (right_of (m x)) xs ys first.2 second)

  pub chain_left : (before next : ℕ) (xs ys : List ℕ) → IsChain m before next (xs ++ ys) → IsChain m before next xs
  chain_left before next [] ys chain = tt
  chain_left before next (x ∷ xs) ys chain = (chain.0, chain.1, chain_left x (right_of (m x)) xs ys chain.2)

  pub chain_right : (before next : ℕ) (xs ys : List ℕ) → IsChain m before next (xs ++ ys) → IsChain m (last_block before xs) (last_right m next xs) ys
  chain_right before next [] ys chain = chain
  chain_right before next (x ∷ xs) ys chain = chain_right x (right_of (m x)) xs ys chain.2

module _ {R K : Type 0} (form : Form R K) where
  pub rising_join : (q : Option R) (xs ys : List R) → RisesAfter form q xs → RisesAfter form (last_rec q xs) ys → RisesAfter form q (xs ++ ys)
  rising_join q [] ys first second = second
  rising_join q (x ∷ xs) ys first second = (first.0, rising_join (Some x) xs ys first.1 second)

  pub rising_left : (q : Option R) (xs ys : List R) → RisesAfter form q (xs ++ ys) → RisesAfter form q xs
  rising_left q [] ys whole = tt
  rising_left q (x ∷ xs) ys whole = (whole.0, rising_left (Some x) xs ys whole.1)

  pub rising_right : (q : Option R) (xs ys : List R) → RisesAfter form q (xs ++ ys) → RisesAfter form (last_rec q xs) ys
  rising_right q [] ys whole = whole
  rising_right q (x ∷ xs) ys whole = rising_right (Some x) xs ys whole.1

  -- records that rise, behind one that comes before the first
  pub rises_behind : (r : R) (rs : List R) → IsRising form (r ∷ rs) → RisesAfter form (Some r) rs
  rises_behind r [] rising = tt
  rises_behind r (s ∷ rs) rising = (rising.0, rises_behind s rs rising.1)

  pub rises_plainly : (r : R) (rs : List R) → RisesAfter form (Some r) rs → IsRising form (r ∷ rs)
  rises_plainly r [] rising = (tt, tt)
  rises_plainly r (s ∷ rs) rising = (rising.0, rises_plainly s rs rising.1)

  pub to_rising : (rs : List R) → RisesAfter form None rs → IsRising form rs
  to_rising [] rising = tt
  to_rising (r ∷ rs) rising = rises_plainly r rs rising.1

  pub from_rising : (rs : List R) → IsRising form rs → RisesAfter form None rs
  from_rising [] rising = tt
  from_rising (r ∷ rs) rising = (refl, rises_behind r rs rising)

no_choice : (c : Bool) (a b : BlockFault) → cond c (Some b) (Some a) ≡ None → Some a ≡ None
no_choice true a b h = cc
no_choice false a b h = h

no_second : (c : Bool) (a b : BlockFault) → cond c (Some b) (Some a) ≡ None → Some b ≡ None
no_second true a b h = h
no_second false a b h = cc

-- no fault comes first where there is none
pub sooner_none : (a b : Option BlockFault) → sooner a b ≡ None → (a ≡ None) × (b ≡ None)
sooner_none None b h = (refl, h)
sooner_none (Some a) None h = (h, refl)
sooner_none (Some a) (Some b) h = (no_choice _ a b h, no_second _ a b h)

pub tested_ok : {A : Type 0} (fault : Option BlockFault) (p : ℕ) (read : Result A (ℕ × BlockFault)) (x : A) → tested fault p read ≡ Ok x → (fault ≡ None) × (read ≡ Ok x)
tested_ok None p read x h = (refl, h)
tested_ok (Some fault) p read x h = cc

pub both_same : {A B E : Type 0} (a c : A) (b d : B) → ◌≡◌ {A = Result (A × B) E} (Ok (a, b)) (Ok (c, d)) → (a ≡ c) × (b ≡ d)
both_same {A} {B} a c b d h = let e : ◌≡◌ {A = A × B} (a, b) (c, d) = cc in (ap (λ (x : A × B). x.0) e, ap (λ (x : A × B). x.1) e)

pub bool_ok : {A E : Type 0} (b : Bool) (u : Result A E) (f : E) (z : A) → cond b u (Err f) ≡ Ok z → (b ≡ true) × (u ≡ Ok z)
bool_ok true u f z h = (refl, h)
bool_ok false u f z h = cc

-- a child was read, its keys agree, and the others were read behind it
pub child_ok : {R K : Type 0} (form : Form R K) (read : Read R K) (e : Entry K) (go : Trail R × Option (Span K) → Read R K) (f : ℕ × BlockFault) (z : Trail R × Option (Span K)) → (elim read as (λ v. Read R K) [ Err g ↦ Err g | Ok y ↦ if agrees form e y.1 then go y else Err f ]) ≡ Ok z → (y : Trail R × Option (Span K)) × (read ≡ Ok y) × (agrees form e y.1 ≡ true) × (go y ≡ Ok z)
child_ok form (Err g) e go f z h = cc
child_ok form (Ok y) e go f z h = let b = bool_ok (agrees form e y.1) (go y) f z h in (y, refl, b.0, b.1)
