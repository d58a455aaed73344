-- The blocks of a new tree are the claimed ones.
use Rattle.std.proofs.Common.{◌≡◌, ℕ, zero, suc, ◌+◌, ◌-◌, ◌<◌, ◌≤◌, Bool, true, false, List, [], ◌∷◌, ◌++◌, length, refl, sym, ap, subst, ◌∙◌, arith}
use Rattle.std.specs.Prelude.{◌==◌, slice_index}
use Rattle.sblock.specs.Form.{Form}
use Rattle.sblock.specs.Lists.{items_from}
use Rattle.sblock.specs.declared.block.Frame.{Frame}
use Rattle.tree_defs.specs.Levels.{over, here, entries, row, blocks_of}
use Rattle.tree_defs.specs.Lists.{times}
use Rattle.tree_defs.specs.Tree.{Entry}
use Rattle.tree_defs.proofs.Counts.{times_append}
use Rattle.bulk_load.specs.Loaded.{piece, at_level}
use Rattle.bulk_load.specs.Shapes.{width, start, total}
use Rattle.bulk_load.specs.Trees.{Stand}
use Rattle.bulk_load.proofs.RecordLemmas.{piece_join, whole}
use Rattle.bulk_load.proofs.ShapeLemmas.{start_none, start_on, start_up}
use Rattle.load_trees.proofs.RowLemmas.{same, less, over_nothing, no_row, level_is, piece_items}

total_same : (f g : ℕ → ℕ) (n : ℕ) → ((l : ℕ) → l < n → f l ≡ g l) → total n f ≡ total n g
unfolding total
total_same f g zero h = refl
total_same f g (suc n) h = omega (arith, total_same f g n (λ l lt. h l (omega (arith, lt))), h n (omega arith))

total_plus : (f g : ℕ → ℕ) (n : ℕ) → total n (λ l. f l + g l) ≡ total n f + total n g
unfolding total
total_plus f g zero = refl
total_plus f g (suc n) = omega (arith, total_plus f g n)

total_none : (n : ℕ) → total n (λ l. 0) ≡ 0
unfolding total
total_none zero = refl
total_none (suc n) = omega (arith, total_none n)

module _ {R K : Type 0} (form : Form R K) (frame : Frame) (m : ℕ → List ℕ) (list : List R) (claimed : List ℕ) (levels : ℕ) (all : length claimed ≡ start form.kind (length list) levels) (stand : Stand form list claimed frame levels m) where
  over_levels : (j b : ℕ) → ((q : ℕ) → total (suc j) (λ l. times b (row form m j l q)) ≡ times b (blocks_of form m j q)) → (es : List (Entry K)) → total (suc j) (λ l. times b (over (row form m j l) es)) ≡ times b (over (blocks_of form m j) es)
  over_levels j b each [] = total_none (suc j)
  over_levels j b each (e ∷ es) =
      total_same (λ l. times b (row form m j l e.child ++ over (row form m j l) es)) (λ l. times b (row form m j l e.child) + times b (over (row form m j l) es)) (suc j) (λ l lt. times_append b (row form m j l e.child) (over (row form m j l) es))
      ∙ omega (
        arith,
        total_plus (λ l. times b (row form m j l e.child)) (λ l. times b (over (row form m j l) es)) (suc j),
        each e.child,
        over_levels j b each es,
        times_append b (blocks_of form m j e.child) (over (blocks_of form m j) es),
      )

  lower_row : (j l p : ℕ) → l < suc j → row form m (suc j) l p ≡ over (row form m j l) (entries form m p)
  unfolding row
  lower_row j l p lt = let e : (l == suc j) ≡ false = less l (suc j) lt in rw e refl

  own_row : (j p : ℕ) → row form m (suc j) (suc j) p ≡ p ∷ []
  unfolding row
  own_row j p =
      let e : (suc j == suc j) ≡ true = same (suc j) (suc j) refl in
      rw e (ap (λ (xs : List ℕ). p ∷ xs) (over_nothing (row form m j (suc j)) (λ q. no_row form frame m list claimed levels all stand j (suc j) q (omega arith)) (entries form m p)))

  only_row : (p : ℕ) → row form m 0 0 p ≡ p ∷ []
  unfolding row
  only_row p = refl

  node_blocks : (j p b : ℕ) → times b (blocks_of form m (suc j) p) ≡ times b (p ∷ []) + times b (over (blocks_of form m j) (entries form m p))
  unfolding blocks_of
  node_blocks j p b = times_append b (p ∷ []) (over (blocks_of form m j) (entries form m p))

  leaf_blocks : (p b : ℕ) → times b (blocks_of form m 0 p) ≡ times b (p ∷ [])
  unfolding blocks_of
  leaf_blocks p b = refl

  last_total : (f : ℕ → ℕ) (n : ℕ) → total (suc n) f ≡ total n f + f n
  unfolding total
  last_total f n = refl

  no_total : (f : ℕ → ℕ) → total 0 f ≡ 0
  unfolding total
  no_total f = refl

  pub by_levels : (j p b : ℕ) → total (suc j) (λ l. times b (row form m j l p)) ≡ times b (blocks_of form m j p)
  by_levels zero p b = omega (arith, last_total (λ l. times b (row form m 0 l p)) 0, no_total (λ l. times b (row form m 0 l p)), ap (times b) (only_row p), leaf_blocks p b)
  by_levels (suc j) p b =
      omega (
        arith,
        last_total (λ l. times b (row form m (suc j) l p)) (suc j),
        total_same (λ l. times b (row form m (suc j) l p)) (λ l. times b (over (row form m j l) (entries form m p))) (suc j) (λ l lt. ap (times b) (lower_row j l p lt)),
        over_levels j b (λ q. by_levels j q b) (entries form m p),
        ap (times b) (own_row j p),
        node_blocks j p b,
      )

  -- the claimed blocks, level by level
  claimed_levels : (k b : ℕ) → k ≤ levels → total k (λ l. times b (items_from (at_level form.kind (length list) claimed l) (width form.kind (length list) l) 0)) ≡ times b (piece claimed 0 (start form.kind (length list) k))
  claimed_levels zero b le =
      no_total (λ l. times b (items_from (at_level form.kind (length list) claimed l) (width form.kind (length list) l) 0)) ∙ ap (λ (s : ℕ). times b (piece claimed 0 s)) (sym (start_none form.kind (length list)))
  claimed_levels (suc k) b le =
      let s = start form.kind (length list) k in
      let w = width form.kind (length list) k in
      let z : s + 0 ≡ s = omega arith in
      let y : s + (0 + w) ≡ start form.kind (length list) (suc k) = omega (arith, start_on form.kind (length list) k) in
      let part : piece claimed (s + 0) (s + (0 + w)) ≡ items_from (at_level form.kind (length list) claimed k) w 0 = piece_items claimed s w 0 (omega (arith, all, start_on form.kind (length list) k, start_up form.kind (length list) (suc k) levels le)) in
      let here : piece claimed s (start form.kind (length list) (suc k)) ≡ items_from (at_level form.kind (length list) claimed k) w 0 = ap (λ (a : ℕ). piece claimed a (start form.kind (length list) (suc k))) (sym z) ∙ (ap (λ (a : ℕ). piece claimed (s + 0) a) (sym y) ∙ part) in
      let joined : piece claimed 0 s ++ piece claimed s (start form.kind (length list) (suc k)) ≡ piece claimed 0 (start form.kind (length list) (suc k)) = piece_join claimed 0 s (start form.kind (length list) (suc k)) (omega arith) (start_up form.kind (length list) k (suc k) (omega arith)) in
      omega (
        arith,
        last_total (λ l. times b (items_from (at_level form.kind (length list) claimed l) (width form.kind (length list) l) 0)) k,
        claimed_levels k b (omega (arith, le)),
        times_append b (piece claimed 0 s) (piece claimed s (start form.kind (length list) (suc k))),
        ap (times b) joined,
        ap (times b) here,
      )

  pub blocks_are_claimed : (top b : ℕ) → suc top ≡ levels → width form.kind (length list) top ≡ 1 → times b (blocks_of form m top (at_level form.kind (length list) claimed top 0)) ≡ times b claimed
  blocks_are_claimed top b is one =
      let rows : total (suc top) (λ l. times b (row form m top l (at_level form.kind (length list) claimed top 0))) ≡ total (suc top) (λ l. times b (items_from (at_level form.kind (length list) claimed l) (width form.kind (length list) l) 0)) =
      total_same (λ l. times b (row form m top l (at_level form.kind (length list) claimed top 0))) (λ l. times b (items_from (at_level form.kind (length list) claimed l) (width form.kind (length list) l) 0)) (suc top) (λ l lt. ap (times b) (level_is form frame m list claimed levels all stand top l (omega (arith, is)) one (omega (arith, lt)))) in
      let every : piece claimed 0 (start form.kind (length list) (suc top)) ≡ claimed = whole claimed 0 (start form.kind (length list) (suc top)) refl (ap (start form.kind (length list)) is ∙ sym all) in
      sym (by_levels top (at_level form.kind (length list) claimed top 0) b) ∙ (rows ∙ (claimed_levels (suc top) b (omega (arith, is)) ∙ ap (times b) every))
