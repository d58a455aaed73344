-- The records below the blocks of a new tree.
use Rattle.std.proofs.Common.{◌≡◌, ℕ, zero, suc, ◌+◌, ◌-◌, ◌<◌, ◌≤◌, true, List, [], ◌∷◌, ◌++◌, length, take, drop, refl, sym, ap, subst, ◌∙◌, arith, length-drop}
use Rattle.std.specs.Prelude.{slice_index, All}
use Rattle.std.proofs.Math.Seq.{take-add, take-length}
use Rattle.std.proofs.lemmas.List.{drop-drop, length-take-le}
use Rattle.std.proofs.lemmas.List.Elements.{All-take, All-drop}
use Rattle.sblock.specs.Area.{area_of}
use Rattle.sblock.specs.Blocks.{numrecs, records_of}
use Rattle.sblock.specs.Form.{Form}
use Rattle.sblock.specs.Lists.{items_from}
use Rattle.sblock.specs.declared.block.Frame.{Frame}
use Rattle.tree_defs.specs.Levels.{over, entries, recs_of}
use Rattle.tree_defs.specs.Tree.{Entry, entry_at, entries_from}
use Rattle.bulk_load.specs.Loaded.{piece, at_level, below, Has, IsLaid}
use Rattle.bulk_load.specs.Shapes.{width, start, count, begin, first_record, IsShape}
use Rattle.bulk_load.specs.Trees.{Stand, HoldTheList}
use Rattle.bulk_load.proofs.Numbers.{up}
use Rattle.bulk_load.proofs.ShapeLemmas.{first_none, first_step, first_last, leaf_step, begins_on, begins_at_none, children_within, start_on}

module _ {A : Type 0} where
  piece_none : (xs : List A) (a b : ℕ) → a ≡ b → piece xs a b ≡ []
  piece_none xs a b e = let z : b - a ≡ 0 = omega (arith, e) in rw z refl

  pub piece_join : (xs : List A) (a b d : ℕ) → a ≤ b → b ≤ d → piece xs a b ++ piece xs b d ≡ piece xs a d
  piece_join xs a b d ab bd =
      let e : a + (b - a) ≡ b = omega arith in
      let s : (b - a) + (d - b) ≡ d - a = omega arith in
      let t : drop (b - a) (drop a xs) ≡ drop b xs = drop-drop (b - a) a xs ∙ ap (λ (k : ℕ). drop k xs) e in
      ap (λ (ys : List A). take (b - a) (drop a xs) ++ take (d - b) ys) (sym t) ∙ (sym (take-add (b - a) (d - b) (drop a xs)) ∙ ap (λ (k : ℕ). take k (drop a xs)) s)

  pub piece_length : (xs : List A) (a b : ℕ) → a ≤ b → b ≤ length xs → length (piece xs a b) ≡ b - a
  piece_length xs a b ab room = length-take-le (b - a) (drop a xs) (omega (arith, length-drop a xs))

  pub whole : (xs : List A) (a b : ℕ) → a ≡ 0 → b ≡ length xs → piece xs a b ≡ xs
  whole xs a b none all =
      let d : b - a ≡ length xs = omega (arith, none, all) in
      ap (λ (k : ℕ). take (b - a) (drop k xs)) none ∙ (ap (λ (k : ℕ). take k xs) d ∙ take-length xs)

  -- the pieces below some entries are one piece
  pub over_pieces : {K : Type 0} (f : ℕ → List A) (entry : ℕ → Entry K) (xs : List A) (g : ℕ → ℕ) → ((a : ℕ) → g a ≤ g (a + 1)) → (c k e : ℕ)
      → ((d : ℕ) → e ≤ d → d < e + k → f ((entry d).child) ≡ piece xs (g (c + d)) (g (c + d + 1))) → over f (items_from entry k e) ≡ piece xs (g (c + e)) (g (c + (e + k)))
  over_pieces f entry xs g step c zero e h = let z : e + 0 ≡ e = omega arith in rw z (sym (piece_none xs (g (c + e)) (g (c + e)) refl))
  over_pieces f entry xs g step c (suc k) e h =
      let p : c + e + 1 ≡ c + (e + 1) = omega arith in
      let q : (e + 1) + k ≡ e + suc k = omega arith in
      let first : f ((entry e).child) ≡ piece xs (g (c + e)) (g (c + (e + 1))) = rw p at (h e (omega arith) (omega arith)) in
      let rest : over f (items_from entry k (e + 1)) ≡ piece xs (g (c + (e + 1))) (g (c + (e + suc k))) = rw q at (over_pieces f entry xs g step c k (e + 1) (λ d low high. h d (omega arith) (omega arith))) in
      rw (first, rest) (piece_join xs (g (c + e)) (g (c + (e + 1))) (g (c + (e + suc k))) (up_to e (e + 1) (omega arith)) (up_to (e + 1) (e + suc k) (omega arith)))
    where
      up_to : (a b : ℕ) → a ≤ b → g (c + a) ≤ g (c + b)
      up_to a b le = up g step (c + a) (c + b) (omega (arith, le))

module _ {R K : Type 0} (form : Form R K) (list : List R) (claimed : List ℕ) (frame : Frame) (levels : ℕ) (m : ℕ → List ℕ)
    (written : All (λ r. form.is_written r ≡ true) list) (stand : Stand form list claimed frame levels m) where
  pub within : (j i : ℕ) → i ≤ width form.kind (length list) j → first_record form.kind (length list) j i ≤ length list
  within j i le = omega (arith, up (first_record form.kind (length list) j) (first_step form.kind (length list) j) i (width form.kind (length list) j) le, first_last form.kind (length list) j)

  ends : (j i : ℕ) → piece list (first_record form.kind (length list) j (begin form.kind (length list) (suc j) i + 0)) (first_record form.kind (length list) j (begin form.kind (length list) (suc j) i + (0 + count form.kind (length list) (suc j) i))) ≡ below form list (suc j) i
  unfolding first_record
  ends j i =
      let a : begin form.kind (length list) (suc j) i + 0 ≡ begin form.kind (length list) (suc j) i = omega arith in
      let b : begin form.kind (length list) (suc j) i + (0 + count form.kind (length list) (suc j) i) ≡ begin form.kind (length list) (suc j) (i + 1) = omega (arith, begins_on form.kind (length list) (suc j) i) in
      rw (a, b) refl

  pub records_below : (j i : ℕ) → j < levels → i < width form.kind (length list) j → recs_of form m j (at_level form.kind (length list) claimed j i) ≡ below form list j i
  unfolding recs_of records_of entries_from
  records_below zero i lv lt =
      let laid = stand 0 i lv lt in
      let n : length (below form list 0 i) ≡ count form.kind (length list) 0 i =
      omega (arith, piece_length list (first_record form.kind (length list) 0 i) (first_record form.kind (length list) 0 (i + 1)) (first_step form.kind (length list) 0 i) (within 0 (i + 1) (omega (arith, lt))), leaf_step form.kind (length list) i) in
      let c : numrecs (m (at_level form.kind (length list) claimed 0 i)) ≡ length (below form list 0 i) = laid.head.count ∙ sym n in
      ap (λ (k : ℕ). items_from (form.record_at (area_of (m (at_level form.kind (length list) claimed 0 i)))) k 0) c
      ∙ laid.has (All-take (λ r. form.is_written r ≡ true) (first_record form.kind (length list) 0 (i + 1) - first_record form.kind (length list) 0 i) (drop (first_record form.kind (length list) 0 i) list) (All-drop (λ r. form.is_written r ≡ true) (first_record form.kind (length list) 0 i) list written))
  records_below (suc j) i lv lt =
      let laid = stand (suc j) i lv lt in
      let p = at_level form.kind (length list) claimed (suc j) i in
      let c = begin form.kind (length list) (suc j) i in
      let n = count form.kind (length list) (suc j) i in
      let room = children_within form.kind (length list) j i lt in
      let all = over_pieces (recs_of form m j) (entry_at form (area_of (m p))) list (first_record form.kind (length list) j) (first_step form.kind (length list) j) c n 0
      (λ d low high. ap (recs_of form m j) ((laid.has d (omega (arith, high))).child) ∙ records_below j (c + d) (omega (arith, lv)) (omega (arith, high, room))) in
      ap (λ (k : ℕ). over (recs_of form m j) (items_from (entry_at form (area_of (m p))) k 0)) (laid.head.count)
      ∙ (all ∙ ends j i)

pub holds_the_list : {R K : Type 0} (form : Form R K) → HoldTheList form
holds_the_list form list claimed frame levels m shape written stand =
    let e : suc (levels - 1) ≡ levels = omega (arith, shape.some) in
    let s : start form.kind (length list) levels ≡ start form.kind (length list) (levels - 1) + width form.kind (length list) (levels - 1) = rw e at (start_on form.kind (length list) (levels - 1)) in
    let last : length claimed - 1 ≡ start form.kind (length list) (levels - 1) + 0 = omega (arith, s, shape.top, shape.all) in
    let zero_first = first_none form.kind (length list) (levels - 1) in
    let one : width form.kind (length list) (levels - 1) ≡ 0 + 1 = omega (arith, shape.top) in
    let all_last : first_record form.kind (length list) (levels - 1) (0 + 1) ≡ length list = rw one at (first_last form.kind (length list) (levels - 1)) in
    ap (λ (k : ℕ). recs_of form m (levels - 1) (slice_index claimed k)) last
    ∙ (records_below form list claimed frame levels m written stand (levels - 1) 0 (omega (arith, shape.some)) (omega (arith, shape.top))
    ∙ whole list (first_record form.kind (length list) (levels - 1) 0) (first_record form.kind (length list) (levels - 1) (0 + 1)) zero_first all_last)
