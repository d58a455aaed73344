-- Units that lie in their group.
use Rattle.std.proofs.Common.{ℕ, ◌+◌, ◌*◌, ◌<◌, ◌≤◌, ◌^◌, All, List, [], ◌∷◌, arith}
use Rattle.std.proofs.lemmas.List.Elements.{All-cons, All-head, All-nil, All-tail}
use Rattle.geom.specs.Apart.{HasFitting}
use Rattle.geom.specs.Layout.{Layout, group_len_of}
use Rattle.group_trees.proofs.ReadLemmas.{group_short}
use Rattle.group_trees.specs.Group.{AreInside}
use Rattle.image_check.specs.Mappings.{LieIn}

inside_all : (len : ℕ) (us : List ℕ) → All (λ u. 8 * u + 7 < len) us → AreInside len us
inside_all len [] h = tt
inside_all len (u ∷ us) h = (let lt = All-head (λ (x : ℕ). 8 * x + 7 < len) u us h in omega (arith, lt), inside_all len us (All-tail (λ (x : ℕ). 8 * x + 7 < len) u us h))

small_all : (len : ℕ) (us : List ℕ) → len ≤ 268435456 → All (λ u. 8 * u + 7 < len) us → All (λ u. u < 2 ^ 26) us
small_all len [] le h = All-nil (λ (u : ℕ). u < 2 ^ 26)
small_all len (u ∷ us) le h = All-cons (λ (x : ℕ). x < 2 ^ 26) u us (let lt = All-head (λ (x : ℕ). 8 * x + 7 < len) u us h in omega (arith, le, lt)) (small_all len us le (All-tail (λ (x : ℕ). 8 * x + 7 < len) u us h))

module _ (at : Layout) (g : ℕ) (us : List ℕ) where
  pub are_inside : LieIn at g us → AreInside (group_len_of at g) us
  are_inside h = inside_all (group_len_of at g) us h

  pub are_small : HasFitting at → LieIn at g us → All (λ u. u < 2 ^ 26) us
  are_small fit h = small_all (group_len_of at g) us (group_short at g fit) h
