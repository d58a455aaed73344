-- The need of a unit.
use Rattle.std.proofs.Common.{◌≡◌, ℕ, zero, suc, ◌+◌, ◌-◌, ◌*◌, ◌<◌, ◌≤◌, ◌^◌, Bool, true, false, cond, List, [], ◌∷◌, refl, ap, sym, subst, ◌∙◌, inl, inr, arith}
use Rattle.std.specs.Prelude.{◌↔◌, ◌⊎◌, ◌==◌, nat_lt, if◌then◌else◌}
use Rattle.std.specs.Int.{div_ceil}
use Rattle.std.specs.List.{count_by, sum_by}
use Rattle.std.proofs.Math.Nat.{add-mul, lt_of_mul-lt-mul_right}
use Rattle.std.proofs.lemmas.Bool.{cases_lt, eqb-true, lt-ltb, le-ltb, ltb-true, true≢false}
use Rattle.std.proofs.lemmas.Grind.{div_ceil_times}
use Rattle.std.proofs.lemmas.List.Sums.{sum_by-cons}
use Rattle.bulk_load.specs.Shapes.{HasLevel, IsShape, leaves_for, start, width}
use Rattle.bulk_load.proofs.ShapeLemmas.{enough, items_next, leaf_room, node_room, rises, six_levels, some_wide, start_none, start_on, start_up}
use Rattle.sblock.specs.Kinds.{leaf_most_of, node_most_of}
use Rattle.fs_change.specs.Switch.{kind_need, need, need_of}
use Rattle.fs_state.specs.Lists.{numbers}
use Rattle.fs_model.specs.declared.unit.Unit.{Unit as ScrubUnit}
use Rattle.fs_model.specs.declared.unit.Unit.TheVariants as units
use Rattle.fs_state.specs.State.{State}
use Rattle.sblock.specs.declared.kind.Kind.{Kind}
use Rattle.sblock.specs.declared.kind.Kind.TheVariants.{Bno, Cnt, Rmap, Refc, Ino, Fino}
use Rattle.unit_plan.specs.Need.{AreTreesOf, IsTreeOf}
use Rattle.plan_laws.specs.Agreed.{IsListed, NeedAgrees, NeedRises, TreeNeedAgrees}

-- how many of some numbers pass, where the first l do and the others don't
count_front : (t : ℕ → Bool) (a n l : ℕ) → l ≤ n → ((j : ℕ) → a ≤ j → j < a + l → t j ≡ true) → ((j : ℕ) → a + l ≤ j → t j ≡ false) → count_by t (numbers a n) ≡ l
count_front t a zero l le front back = omega (arith, le)
count_front t a (suc n) zero le front back =
    let first : count_by t (a ∷ numbers (a + 1) n) ≡ cond {A = ℕ} (t a) 1 0 + count_by t (numbers (a + 1) n) = sum_by-cons (λ x. cond {A = ℕ} (t x) 1 0) a (numbers (a + 1) n) in
    let none : cond {A = ℕ} (t a) 1 0 ≡ 0 = ap (λ (b : Bool). cond {A = ℕ} b 1 0) (back a (omega arith)) in
    let rest = count_front t (a + 1) n 0 (omega arith) (λ j low high. absurd (omega (arith, low, high))) (λ j low. back j (omega (arith, low))) in
    omega (arith, first, none, rest)
count_front t a (suc n) (suc l) le front back =
    let first : count_by t (a ∷ numbers (a + 1) n) ≡ cond {A = ℕ} (t a) 1 0 + count_by t (numbers (a + 1) n) = sum_by-cons (λ x. cond {A = ℕ} (t x) 1 0) a (numbers (a + 1) n) in
    let one : cond {A = ℕ} (t a) 1 0 ≡ 1 = ap (λ (b : Bool). cond {A = ℕ} b 1 0) (front a (omega arith) (omega arith)) in
    let rest = count_front t (a + 1) n l (omega (arith, le)) (λ j low high. front j (omega (arith, low)) (omega (arith, high))) (λ j low. back j (omega (arith, low))) in
    omega (arith, first, one, rest)

module _ (kind : Kind) (n : ℕ) where
  no_wider : (j : ℕ) → width kind n (suc j) ≤ width kind n j
  no_wider j =
      let some = some_wide kind n j in
      let next = items_next kind n j in
      let fewer = enough kind n (suc j) (omega (arith, some, next)) in
      omega (arith, fewer, next)

  one_above : (top d : ℕ) → width kind n top ≡ 1 → width kind n (top + d) ≡ 1
  one_above top zero one = let e : top + 0 ≡ top = omega arith in rw e one
  one_above top (suc d) one =
      let e : top + suc d ≡ suc (top + d) = omega arith in
      rw e (let below = one_above top d one in let fewer = no_wider (top + d) in let some = some_wide kind n (suc (top + d)) in omega (arith, below, fewer, some))

  is_one : (top j : ℕ) → width kind n top ≡ 1 → top ≤ j → width kind n j ≡ 1
  is_one top j one le = let e : top + (j - top) ≡ j = omega (arith, le) in subst (λ (x : ℕ). width kind n x ≡ 1) e (one_above top (j - top) one)

  -- the levels of several blocks are counted
  of_shape : (levels blocks : ℕ) → IsShape kind n levels blocks → levels ≤ 8 → blocks ≡ need_of kind n
  unfolding need_of
  of_shape levels blocks shape few =
      let some = shape.some in
      let counted : count_by (λ j. nat_lt 1 (width kind n j)) (numbers 0 8) ≡ levels - 1 =
      count_front (λ j. nat_lt 1 (width kind n j)) 0 8 (levels - 1) (omega (arith, few))
      (λ j low high. lt-ltb 1 (width kind n j) (let wide = shape.below j (omega (arith, high)) in omega (arith, wide)))
      (λ j low. le-ltb 1 (width kind n j) (let one = is_one (levels - 1) j shape.top (omega (arith, low)) in omega (arith, one))) in
      let all : levels ≡ 1 + count_by (λ j. nat_lt 1 (width kind n j)) (numbers 0 8) = omega (arith, counted, some) in
      shape.all ∙ ap (start kind n) all

  -- there is a last level, or all of these have several blocks
  abbrev HasTop : ℕ → Type 0
  HasTop k = (top : ℕ) × (top < k) × HasLevel kind n top × (width kind n top ≡ 1)

  top_or_all : (k : ℕ) → HasLevel kind n k ⊎ HasTop k
  top_or_all zero = inl (λ j lt. absurd (omega (arith, lt)))
  top_or_all (suc k) = elim (top_or_all k) [
    | inr top ↦ inr (top.0, (let lt = top.1 in omega (arith, lt)), top.2, top.3)
    | inl has ↦ elim (cases_lt 1 (width kind n k)) [
      | inl wide ↦ inl (λ j lt. elim (cases_lt j k) [
        | inl under ↦ has j under
        | inr over ↦ (let e : k ≡ j = omega (arith, over, lt) in subst (λ (x : ℕ). 2 ≤ width kind n x) e (omega (arith, wide)))
      ])
      | inr narrow ↦ inr (k, (omega arith), has, (let some = some_wide kind n k in omega (arith, narrow, some)))
    ]
  ]

  -- six levels of several blocks are more than 2^32 leaves
  wide_leaves : HasLevel kind n 6 → 2 ^ 32 < width kind n 0
  wide_leaves has =
      let w5 : 1 < width kind n 5 = has 5 (omega arith) in
      let w4 : 91 < width kind n 4 = rises kind n 4 1 w5 in
      let w3 : 8281 < width kind n 3 = rises kind n 3 91 w4 in
      let w2 : 753571 < width kind n 2 = rises kind n 2 8281 w3 in
      let w1 : 68574961 < width kind n 1 = rises kind n 1 753571 w2 in
      let w0 : 6240321451 < width kind n 0 = rises kind n 0 68574961 w1 in
      omega (arith, w0)

  leaves_counted : width kind n 0 ≤ need_of kind n
  unfolding need_of
  leaves_counted =
      let up = start_up kind n 1 (1 + count_by (λ j. nat_lt 1 (width kind n j)) (numbers 0 8)) (omega arith) in
      let one : start kind n 1 ≡ start kind n 0 + width kind n 0 = start_on kind n 0 in
      omega (arith, up, one)

  shaped : need_of kind n < 2 ^ 32 → IsTreeOf kind n (need_of kind n)
  shaped few = elim (top_or_all 6) [
    | inl has ↦ absurd (let many = wide_leaves has in let counted = leaves_counted in omega (arith, many, counted, few))
    | inr top ↦
        let back : suc top.0 - 1 ≡ top.0 = omega arith in
        let shape : IsShape kind n (suc top.0) (start kind n (suc top.0)) = record {
          some = omega arith;
          below = subst (λ (x : ℕ). HasLevel kind n x) (sym back) top.2;
          top = subst (λ (x : ℕ). width kind n x ≡ 1) (sym back) top.3;
          all = refl;
        } in
        let low = top.1 in
        let is = of_shape (suc top.0) (start kind n (suc top.0)) shape (omega (arith, low)) in
        subst (λ (x : ℕ). IsTreeOf kind n x) is (suc top.0, shape)
  ]

pub tree_need_lem : TreeNeedAgrees
tree_need_lem kind n blocks few = (
  λ h. of_shape kind n h.0 blocks h.1 (let levels = six_levels kind n h.0 blocks h.1 few in omega (arith, levels)),
  λ e. subst (λ (x : ℕ). IsTreeOf kind n x) (sym e) (shaped kind n (omega (arith, e, few))),
)

-- ---- more records need no fewer blocks

ceil_rises : (a c b : ℕ) → 0 < b → a ≤ c → div_ceil a b ≤ div_ceil c b
ceil_rises a c b some le = below (div_ceil a b) (div_ceil c b) (div_ceil_times a b some).1 (div_ceil_times c b some).0
  where
    below : (x y : ℕ) → x * b < a + b → c ≤ y * b → x ≤ y
    below x y low high =
        let e : (y + 1) * b ≡ y * b + 1 * b = add-mul y 1 b in
        let lt : x < y + 1 = lt_of_mul-lt-mul_right b (omega (arith, low, high, le, e)) in
        omega (arith, lt)

leaves_rise : (kind : Kind) (n m : ℕ) → n ≤ m → width kind n 0 ≤ width kind m 0
unfolding width leaves_for
leaves_rise kind n m le = by_tests (n == 0) (m == 0) refl refl
  where
    most : 0 < leaf_most_of kind
    most = let room = (leaf_room kind).0 in omega (arith, room)

    by_tests : (s t : Bool) → (n == 0) ≡ s → (m == 0) ≡ t → (if s then 1 else div_ceil n (leaf_most_of kind)) ≤ (if t then 1 else div_ceil m (leaf_most_of kind))
    by_tests true true d e = omega arith
    by_tests false true d e =
        let zero_m = eqb-true m 0 e in
        let zero_n : n ≡ 0 = omega (arith, le, zero_m) in
        absurd (true≢false (sym (ap (λ (x : ℕ). x == 0) zero_n) ∙ d))
    by_tests true false d e = subst (λ (t : Bool). 1 ≤ (if t then 1 else div_ceil m (leaf_most_of kind))) e (some_wide kind m 0)
    by_tests false false d e = ceil_rises n m (leaf_most_of kind) most le

widths_rise : (kind : Kind) (n m j : ℕ) → n ≤ m → width kind n j ≤ width kind m j
unfolding width
widths_rise kind n m zero le = leaves_rise kind n m le
widths_rise kind n m (suc j) le = ceil_rises (width kind n j) (width kind m j) (node_most_of kind) (let room = (node_room kind).0 in omega (arith, room)) (widths_rise kind n m j le)

starts_rise : (kind : Kind) (n m l : ℕ) → n ≤ m → start kind n l ≤ start kind m l
starts_rise kind n m zero le = let a = start_none kind n in let b = start_none kind m in omega (arith, a, b)
starts_rise kind n m (suc l) le =
    let a = start_on kind n l in
    let b = start_on kind m l in
    let c = starts_rise kind n m l le in
    let d = widths_rise kind n m l le in
    omega (arith, a, b, c, d)

count_rises : (t u : ℕ → Bool) → ((j : ℕ) → t j ≡ true → u j ≡ true) → (xs : List ℕ) → count_by t xs ≤ count_by u xs
count_rises t u also [] = omega arith
count_rises t u also (x ∷ xs) =
    let a : count_by t (x ∷ xs) ≡ cond {A = ℕ} (t x) 1 0 + count_by t xs = sum_by-cons (λ y. cond {A = ℕ} (t y) 1 0) x xs in
    let b : count_by u (x ∷ xs) ≡ cond {A = ℕ} (u x) 1 0 + count_by u xs = sum_by-cons (λ y. cond {A = ℕ} (u y) 1 0) x xs in
    let c = count_rises t u also xs in
    let d = one (t x) (u x) (also x) in
    omega (arith, a, b, c, d)
  where
    one : (s v : Bool) → (s ≡ true → v ≡ true) → cond {A = ℕ} s 1 0 ≤ cond {A = ℕ} v 1 0
    one true true h = omega arith
    one true false h = absurd (true≢false (sym (h refl)))
    one false true h = omega arith
    one false false h = omega arith

pub need_rises_lem : NeedRises
unfolding need_of
need_rises_lem kind n m le =
    let wider : (j : ℕ) → nat_lt 1 (width kind n j) ≡ true → nat_lt 1 (width kind m j) ≡ true =
    λ j wide. lt-ltb 1 (width kind m j) (let lt = ltb-true 1 (width kind n j) wide in let up = widths_rise kind n m j le in omega (arith, lt, up)) in
    let levels = count_rises (λ j. nat_lt 1 (width kind n j)) (λ j. nat_lt 1 (width kind m j)) wider (numbers 0 8) in
    let few = starts_rise kind n m (1 + count_by (λ j. nat_lt 1 (width kind n j)) (numbers 0 8)) le in
    let more = start_up kind m (1 + count_by (λ j. nat_lt 1 (width kind n j)) (numbers 0 8)) (1 + count_by (λ j. nat_lt 1 (width kind m j)) (numbers 0 8)) (omega (arith, levels)) in
    omega (arith, few, more)

-- ---- of a unit

one_list : (a : State) (g : ℕ) (unit : ScrubUnit) (kind : Kind) (n blocks : ℕ) → IsListed a g unit kind n → blocks < 2 ^ 32 → IsTreeOf kind n blocks ↔ (blocks ≡ kind_need a g unit kind)
one_list a g unit kind n blocks listed few = (
  λ h. (tree_need_lem kind n blocks few).0 h ∙ ap (need_of kind) listed,
  λ e. (tree_need_lem kind n blocks few).1 (e ∙ sym (ap (need_of kind) listed)),
)

two_lists : (a : State) (g : ℕ) (unit : ScrubUnit) (kind other : Kind) (n m blocks : ℕ) → IsListed a g unit kind n → IsListed a g unit other m → blocks < 2 ^ 32
    → AreTreesOf kind other n m blocks ↔ (blocks ≡ kind_need a g unit kind + kind_need a g unit other)
two_lists a g unit kind other n m blocks first second few = (
  λ h.
      let sum = h.sum in
      let one = (one_list a g unit kind n h.first first (omega (arith, sum, few))).0 h.one in
      let two = (one_list a g unit other m h.second second (omega (arith, sum, few))).0 h.two in
      omega (arith, sum, one, two),
  λ e. record {
    first = kind_need a g unit kind;
    second = kind_need a g unit other;
    one = (one_list a g unit kind n (kind_need a g unit kind) first (omega (arith, e, few))).1 refl;
    two = (one_list a g unit other m (kind_need a g unit other) second (omega (arith, e, few))).1 refl;
    sum = e;
  },
)

module _ (a : State) (g : ℕ) where
  of_one : (unit : ScrubUnit) (kind : Kind) → sum_by (kind_need a g unit) (kind ∷ []) ≡ kind_need a g unit kind
  of_one unit kind = let e = sum_by-cons (kind_need a g unit) kind [] in let z : sum_by (kind_need a g unit) [] ≡ 0 = refl in omega (arith, e, z)

  of_two : (unit : ScrubUnit) (kind other : Kind) → sum_by (kind_need a g unit) (kind ∷ other ∷ []) ≡ kind_need a g unit kind + kind_need a g unit other
  of_two unit kind other = let e = sum_by-cons (kind_need a g unit) kind (other ∷ []) in let f = of_one unit other in omega (arith, e, f)

  need_inode : need a g units.Inode ≡ kind_need a g units.Inode Ino + kind_need a g units.Inode Fino
  unfolding need
  need_inode = of_two units.Inode Ino Fino

  need_free : need a g units.Free ≡ kind_need a g units.Free Bno + kind_need a g units.Free Cnt
  unfolding need
  need_free = of_two units.Free Bno Cnt

  need_rmap : need a g units.Rmap ≡ kind_need a g units.Rmap Rmap
  unfolding need
  need_rmap = of_one units.Rmap Rmap

  need_refc : need a g units.Refc ≡ kind_need a g units.Refc Refc
  unfolding need
  need_refc = of_one units.Refc Refc

pub need_agrees_lem : NeedAgrees
need_agrees_lem a g units.Inode n m blocks listed few =
    let h = two_lists a g units.Inode Ino Fino n m blocks listed.0 listed.1 few in
    (λ x. h.0 x ∙ sym (need_inode a g), λ e. h.1 (e ∙ need_inode a g))
need_agrees_lem a g units.Rmap n m blocks listed few =
    let h = one_list a g units.Rmap Rmap n blocks listed few in
    (λ x. h.0 x ∙ sym (need_rmap a g), λ e. h.1 (e ∙ need_rmap a g))
need_agrees_lem a g units.Free n m blocks listed few =
    let h = two_lists a g units.Free Bno Cnt n m blocks listed.0 listed.1 few in
    (λ x. h.0 x ∙ sym (need_free a g), λ e. h.1 (e ∙ need_free a g))
need_agrees_lem a g units.Refc n m blocks listed few =
    let h = one_list a g units.Refc Refc n blocks listed few in
    (λ x. h.0 x ∙ sym (need_refc a g), λ e. h.1 (e ∙ need_refc a g))
