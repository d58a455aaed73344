-- The blocks of each level of a new tree, from left to right, and their siblings.
use Rattle.std.proofs.Common.{◌≡◌, ℕ, zero, suc, ◌+◌, ◌-◌, ◌<◌, ◌≤◌, Bool, true, false, List, [], ◌∷◌, ◌++◌, length, refl, sym, ap, subst, ◌∙◌, inl, inr, arith}
use Rattle.std.specs.Prelude.{◌⊎◌, ◌==◌, nat_lt, if◌then◌else◌, slice_index, All}
use Rattle.std.proofs.lemmas.Bool.{eqb-true}
use Rattle.std.proofs.lemmas.Bool.Decides.{nat_tests}
use Rattle.sblock.specs.Area.{area_of, child_of}
use Rattle.sblock.specs.Blocks.{numrecs}
use Rattle.sblock.specs.Form.{Form}
use Rattle.sblock.specs.Headers.{no_block, left_of, right_of}
use Rattle.sblock.specs.Lists.{items_from}
use Rattle.sblock.specs.declared.block.Frame.{Frame}
use Rattle.tree_defs.specs.Levels.{over, here, entries, row, IsChain, last_right}
use Rattle.tree_defs.specs.Tree.{Entry, entry_at, entries_from}
use Rattle.bulk_load.specs.Loaded.{piece, at_level, left_for, right_for, IsEntry}
use Rattle.bulk_load.specs.Shapes.{width, items, start, count, begin, IsShape}
use Rattle.bulk_load.specs.Trees.{Stand}
use Rattle.bulk_load.proofs.Numbers.{lt_true, lt_false, up}
use Rattle.bulk_load.proofs.RecordLemmas.{piece_join, over_pieces}
use Rattle.bulk_load.proofs.ShapeLemmas.{begins_on, begins_at_none, ends_at_all, items_next, children_within, start_on, start_up, some_wide}

pub same : (a b : ℕ) → a ≡ b → (a == b) ≡ true
same a b h = grind (arith, nat_tests)

pub less : (a b : ℕ) → a < b → (a == b) ≡ false
less a b h = grind (arith, nat_tests)

more : (a b : ℕ) → b < a → (a == b) ≡ false
more a b h = grind (arith, nat_tests)

still_below : (l j : ℕ) → l ≤ suc j → (l == suc j) ≡ false → l ≤ j
still_below l j le e = grind (arith, nat_tests)

piece_nothing : (xs : List ℕ) (a : ℕ) → piece xs a a ≡ []
piece_nothing xs a = let z : a - a ≡ 0 = omega arith in rw z refl

one_piece : (xs : List ℕ) (a : ℕ) → a < length xs → piece xs a (a + 1) ≡ slice_index xs a ∷ []
one_piece [] a lt = absurd (omega (arith, lt))
one_piece (x ∷ xs) zero lt = refl
one_piece (x ∷ xs) (suc a) lt = let e : suc a + 1 - suc a ≡ a + 1 - a = omega arith in rw e (one_piece xs a (omega (arith, lt)))

pub piece_items : (xs : List ℕ) (s k i : ℕ) → s + (i + k) ≤ length xs → piece xs (s + i) (s + (i + k)) ≡ items_from (λ a. slice_index xs (s + a)) k i
piece_items xs s zero i room = let e : i + 0 ≡ i = omega arith in rw e (piece_nothing xs (s + i))
piece_items xs s (suc k) i room =
    let p : s + i + 1 ≡ s + (i + 1) = omega arith in
    let q : (i + 1) + k ≡ i + suc k = omega arith in
    let first : piece xs (s + i) (s + (i + 1)) ≡ slice_index xs (s + i) ∷ [] = rw p at (one_piece xs (s + i) (omega (arith, room))) in
    let rest : piece xs (s + (i + 1)) (s + (i + suc k)) ≡ items_from (λ a. slice_index xs (s + a)) k (i + 1) = rw q at (piece_items xs s k (i + 1) (omega (arith, room))) in
    sym (piece_join xs (s + i) (s + (i + 1)) (s + (i + suc k)) (omega arith) (omega arith))
    ∙ (ap (λ (ys : List ℕ). ys ++ piece xs (s + (i + 1)) (s + (i + suc k))) first ∙ ap (λ (ys : List ℕ). slice_index xs (s + i) ∷ ys) rest)

pub over_nothing : {K : Type 0} (f : ℕ → List ℕ) → ((q : ℕ) → f q ≡ []) → (es : List (Entry K)) → over f es ≡ []
over_nothing f none [] = refl
over_nothing f none (e ∷ es) = rw (none e.child) (over_nothing f none es)

module _ {R K : Type 0} (form : Form R K) (frame : Frame) (m : ℕ → List ℕ) (list : List R) (claimed : List ℕ) (levels : ℕ) (all : length claimed ≡ start form.kind (length list) levels) (stand : Stand form list claimed frame levels m) where
  no_here : (j l p : ℕ) → j < l → here j l p ≡ []
  no_here j l p lt = let e : (l == j) ≡ false = more l j lt in rw e refl

  pub no_row : (j l p : ℕ) → j < l → row form m j l p ≡ []
  unfolding row
  no_row zero l p lt = no_here 0 l p lt
  no_row (suc j) l p lt =
      ap (λ (xs : List ℕ). xs ++ over (row form m j l) (entries form m p)) (no_here (suc j) l p lt)
      ∙ over_nothing (row form m j l) (λ q. no_row j l q (omega (arith, lt))) (entries form m p)

  -- the first block of level l below block i of level j
  abbrev down : ℕ → ℕ → ℕ → ℕ
  down zero l i = i
  down (suc j) l i = if l == suc j then i else down j l (begin form.kind (length list) (suc j) i)

  begin_step : (j i : ℕ) → begin form.kind (length list) j i ≤ begin form.kind (length list) j (i + 1)
  begin_step j i = omega (arith, begins_on form.kind (length list) j i)

  down_step : (j l i : ℕ) → down j l i ≤ down j l (i + 1)
  down_step zero l i = omega arith
  down_step (suc j) l i = by_place (l == suc j) (down_step j l) where
    by_place : (c : Bool) → ((a : ℕ) → down j l a ≤ down j l (a + 1)) → (if c then i else down j l (begin form.kind (length list) (suc j) i)) ≤ (if c then i + 1 else down j l (begin form.kind (length list) (suc j) (i + 1)))
    by_place true step = omega arith
    by_place false step = up (down j l) step (begin form.kind (length list) (suc j) i) (begin form.kind (length list) (suc j) (i + 1)) (begin_step (suc j) i)

  down_none : (j l : ℕ) → down j l 0 ≡ 0
  down_none zero l = refl
  down_none (suc j) l = by_place (l == suc j) (down_none j l) where
    by_place : (c : Bool) → down j l 0 ≡ 0 → (if c then 0 else down j l (begin form.kind (length list) (suc j) 0)) ≡ 0
    by_place true none = refl
    by_place false none = rw (begins_at_none form.kind (length list) (suc j)) none

  down_all : (j l : ℕ) → l ≤ j → down j l (width form.kind (length list) j) ≡ width form.kind (length list) l
  down_all zero l le = let e : l ≡ 0 = omega (arith, le) in rw e refl
  down_all (suc j) l le = by_place (l == suc j) refl (λ h. down_all j l h) where
    by_place : (c : Bool) → (l == suc j) ≡ c → (l ≤ j → down j l (width form.kind (length list) j) ≡ width form.kind (length list) l) → (if c then width form.kind (length list) (suc j) else down j l (begin form.kind (length list) (suc j) (width form.kind (length list) (suc j)))) ≡ width form.kind (length list) l
    by_place true e lower = ap (width form.kind (length list)) (sym (eqb-true l (suc j) e))
    by_place false e lower = rw (ends_at_all form.kind (length list) (suc j), items_next form.kind (length list) j) (lower (still_below l j le e))

  has_claim : (j i : ℕ) → j < levels → i < width form.kind (length list) j → start form.kind (length list) j + i < length claimed
  has_claim j i lv lt = omega (arith, all, start_on form.kind (length list) j, start_up form.kind (length list) (suc j) levels (omega (arith, lv)))

  own_piece : (j i : ℕ) → j < levels → i < width form.kind (length list) j → at_level form.kind (length list) claimed j i ∷ [] ≡ piece claimed (start form.kind (length list) j + i) (start form.kind (length list) j + (i + 1))
  own_piece j i lv lt =
      let e : start form.kind (length list) j + i + 1 ≡ start form.kind (length list) j + (i + 1) = omega arith in
      sym (rw e at (one_piece claimed (start form.kind (length list) j + i) (has_claim j i lv lt)))

  pub row_is : (j l i : ℕ) → j < levels → i < width form.kind (length list) j → l ≤ j → row form m j l (at_level form.kind (length list) claimed j i) ≡ piece claimed (start form.kind (length list) l + down j l i) (start form.kind (length list) l + down j l (i + 1))
  unfolding row entries_from
  row_is zero l i lv lt le =
      let z : 0 ≡ l = omega (arith, le) in
      subst (λ (k : ℕ). here 0 k (at_level form.kind (length list) claimed 0 i) ≡ piece claimed (start form.kind (length list) k + i) (start form.kind (length list) k + (i + 1))) z (own_piece 0 i lv lt)
  row_is (suc j) l i lv lt le = by_place (l == suc j) refl (λ a within low. row_is j l a (omega (arith, lv)) within low) where
    by_place : (c : Bool) → (l == suc j) ≡ c → ((a : ℕ) → a < width form.kind (length list) j → l ≤ j → row form m j l (at_level form.kind (length list) claimed j a) ≡ piece claimed (start form.kind (length list) l + down j l a) (start form.kind (length list) l + down j l (a + 1))) → (if c then at_level form.kind (length list) claimed (suc j) i ∷ [] else []) ++ over (row form m j l) (items_from (entry_at form (area_of (m (at_level form.kind (length list) claimed (suc j) i)))) (numrecs (m (at_level form.kind (length list) claimed (suc j) i))) 0)
        ≡ piece claimed (start form.kind (length list) l + (if c then i else down j l (begin form.kind (length list) (suc j) i))) (start form.kind (length list) l + (if c then i + 1 else down j l (begin form.kind (length list) (suc j) (i + 1))))
    by_place true e lower =
        let s : suc j ≡ l = sym (eqb-true l (suc j) e) in
        ap (λ (ys : List ℕ). at_level form.kind (length list) claimed (suc j) i ∷ ys) (over_nothing (row form m j l) (λ q. no_row j l q (omega (arith, s))) (items_from (entry_at form (area_of (m (at_level form.kind (length list) claimed (suc j) i)))) (numrecs (m (at_level form.kind (length list) claimed (suc j) i))) 0))
        ∙ subst (λ (k : ℕ). at_level form.kind (length list) claimed (suc j) i ∷ [] ≡ piece claimed (start form.kind (length list) k + i) (start form.kind (length list) k + (i + 1))) s (own_piece (suc j) i lv lt)
    by_place false e lower =
        let c0 = begin form.kind (length list) (suc j) i in
        let n0 = count form.kind (length list) (suc j) i in
        let z : c0 + 0 ≡ c0 = omega arith in
        let y : c0 + (0 + n0) ≡ begin form.kind (length list) (suc j) (i + 1) = omega (arith, begins_on form.kind (length list) (suc j) i) in
        let parts : over (row form m j l) (items_from (entry_at form (area_of (m (at_level form.kind (length list) claimed (suc j) i)))) n0 0) ≡ piece claimed (start form.kind (length list) l + down j l (c0 + 0)) (start form.kind (length list) l + down j l (c0 + (0 + n0))) =
        over_pieces (row form m j l) (entry_at form (area_of (m (at_level form.kind (length list) claimed (suc j) i)))) claimed (λ a. start form.kind (length list) l + down j l a) (λ a. omega (arith, down_step j l a)) c0 n0 0
        (λ d low high. ap (row form m j l) (((stand (suc j) i lv lt).has d (omega (arith, high))).child) ∙ lower (c0 + d) (omega (arith, high, children_within form.kind (length list) j i lt)) (still_below l j le e)) in
        ap (λ (n : ℕ). over (row form m j l) (items_from (entry_at form (area_of (m (at_level form.kind (length list) claimed (suc j) i)))) n 0)) (stand (suc j) i lv lt).head.count
        ∙ (parts ∙ (ap (λ (a : ℕ). piece claimed (start form.kind (length list) l + down j l a) (start form.kind (length list) l + down j l (c0 + (0 + n0)))) z ∙ ap (λ (a : ℕ). piece claimed (start form.kind (length list) l + down j l c0) (start form.kind (length list) l + down j l a)) y))

  -- ---- siblings

  left_next : (j i : ℕ) → left_for form.kind (length list) claimed j (i + 1) ≡ at_level form.kind (length list) claimed j i
  left_next j i =
      let e : (i + 1 == 0) ≡ false = more (i + 1) 0 (omega arith) in
      let d : i + 1 - 1 ≡ i = omega arith in
      rw (e, d) refl

  right_next : (j i : ℕ) → i + 1 < width form.kind (length list) j → right_for form.kind (length list) claimed j i ≡ at_level form.kind (length list) claimed j (i + 1)
  right_next j i lt = let e : (i + 1 == width form.kind (length list) j) ≡ false = less (i + 1) (width form.kind (length list) j) lt in rw e refl

  right_last : (j i : ℕ) → i + 1 ≡ width form.kind (length list) j → right_for form.kind (length list) claimed j i ≡ no_block
  right_last j i is = let e : (i + 1 == width form.kind (length list) j) ≡ true = same (i + 1) (width form.kind (length list) j) is in rw e refl

  pub chain_of : (j k i before next : ℕ) → j < levels → i + k ≡ width form.kind (length list) j → before ≡ left_for form.kind (length list) claimed j i → (1 ≤ k → (before ≡ no_block) ⊎ (next ≡ at_level form.kind (length list) claimed j i))
      → IsChain m before next (items_from (at_level form.kind (length list) claimed j) k i)
  chain_of j zero i before next lv is left link = tt
  chain_of j (suc k) i before next lv is left link =
      let head = (stand j i lv (omega (arith, is))).head in (
        head.left ∙ sym left,
        link (omega arith),
        chain_of j k (i + 1) (at_level form.kind (length list) claimed j i) (right_of (m (at_level form.kind (length list) claimed j i))) lv (omega (arith, is)) (sym (left_next j i)) (λ some. inr (head.right ∙ right_next j i (omega (arith, is, some)))),
      )

  pub ends_of : (j k i next : ℕ) → j < levels → 1 ≤ k → i + k ≡ width form.kind (length list) j → last_right m next (items_from (at_level form.kind (length list) claimed j) k i) ≡ no_block
  ends_of j zero i next lv some is = absurd (omega (arith, some))
  ends_of j (suc zero) i next lv some is = (stand j i lv (omega (arith, is))).head.right ∙ right_last j i (omega (arith, is))
  ends_of j (suc (suc k)) i next lv some is = ends_of j (suc k) (i + 1) (right_of (m (at_level form.kind (length list) claimed j i))) lv (omega arith) (omega (arith, is))

  -- a level of the whole tree
  pub level_is : (top l : ℕ) → top < levels → width form.kind (length list) top ≡ 1 → l ≤ top → row form m top l (at_level form.kind (length list) claimed top 0) ≡ items_from (at_level form.kind (length list) claimed l) (width form.kind (length list) l) 0
  level_is top l lv one le =
      let o : 0 + 1 ≡ width form.kind (length list) top = omega (arith, one) in
      let z : down top l 0 ≡ 0 = down_none top l in
      let w : down top l (0 + 1) ≡ 0 + width form.kind (length list) l = ap (down top l) o ∙ (down_all top l le ∙ omega arith) in
      row_is top l 0 lv (omega (arith, one)) le
      ∙ (ap (λ (a : ℕ). piece claimed (start form.kind (length list) l + a) (start form.kind (length list) l + down top l (0 + 1))) z
      ∙ (ap (λ (a : ℕ). piece claimed (start form.kind (length list) l + 0) (start form.kind (length list) l + a)) w
      ∙ piece_items claimed (start form.kind (length list) l) (width form.kind (length list) l) 0 (omega (arith, all, start_on form.kind (length list) l, start_up form.kind (length list) (suc l) levels (omega (arith, lv, le))))))
