-- The shape's levels and what they hold.
use Rattle.std.proofs.Common.{◌≡◌, ℕ, zero, suc, ◌+◌, ◌-◌, ◌*◌, ◌^◌, ◌<◌, ◌≤◌, Bool, true, false, refl, ◌∙◌, arith}
use Rattle.std.specs.Prelude.{◌==◌, nat_lt, if◌then◌else◌}
use Rattle.std.specs.Int.{div_ceil}
use Rattle.std.proofs.lemmas.Bool.Decides.{nat_tests}
use Rattle.sblock.specs.Blocks.{most_of, least_of}
use Rattle.sblock.specs.Kinds.{leaf_most_of, leaf_least_of, node_most_of, node_least_of}
use Rattle.sblock.specs.declared.kind.Kind.{Kind}
use Rattle.sblock.specs.declared.kind.Kind.TheVariants.{Bno, Cnt, Rmap, Refc, Ino, Fino}
use Rattle.bulk_load.specs.declared.rows.Row.{Row}
use Rattle.bulk_load.specs.Shapes.{IsRow, share, total, leaves_for, width, items, start, count, begin, HasLevel, IsShape, first_of, first_record}
use Rattle.std.proofs.Math.Nat.{mul-le-mul_left, mul-le-mul_right, pow-succ'}
use Rattle.std.proofs.Math.Pow.{pow_mono}
use Rattle.bulk_load.proofs.Numbers.{lt_true, lt_false, holds_all, no_more, some_blocks, at_most_items, halved, next_first, none_first, all_first, share_some, share_most, share_least, total_is, up}

-- ---- the kinds' numbers

pub leaf_room : (kind : Kind) → (168 ≤ leaf_most_of kind) × (leaf_most_of kind ≤ 505) × (2 * leaf_least_of kind ≤ leaf_most_of kind) × (leaf_most_of kind ≤ 2 * leaf_least_of kind + 1)
leaf_room Bno = omega arith
leaf_room Cnt = omega arith
leaf_room Rmap = omega arith
leaf_room Refc = omega arith
leaf_room Ino = omega arith
leaf_room Fino = omega arith

pub node_room : (kind : Kind) → (91 ≤ node_most_of kind) × (node_most_of kind ≤ 505) × (2 * node_least_of kind ≤ node_most_of kind) × (node_most_of kind ≤ 2 * node_least_of kind + 1)
node_room Bno = omega arith
node_room Cnt = omega arith
node_room Rmap = omega arith
node_room Refc = omega arith
node_room Ino = omega arith
node_room Fino = omega arith

eq_true : (n : ℕ) → (n == 0) ≡ true → n ≡ 0
eq_true n h = grind (arith, nat_tests)

eq_false : (n : ℕ) → (n == 0) ≡ false → 1 ≤ n
eq_false n h = grind (arith, nat_tests)

-- ---- leaves

module _ (kind : Kind) (n : ℕ) where
  by_none : (c : Bool) → (n == 0) ≡ c → (1 ≤ (if c then 1 else div_ceil n (leaf_most_of kind))) × (n ≤ (if c then 1 else div_ceil n (leaf_most_of kind)) * leaf_most_of kind) × ((if c then 1 else div_ceil n (leaf_most_of kind)) * leaf_most_of kind ≤ n + leaf_most_of kind) × (1 ≤ n → (if c then 1 else div_ceil n (leaf_most_of kind)) ≤ n)
  by_none true e = let z = eq_true n e in let r = leaf_room kind in (omega arith, omega arith, omega arith, λ s. omega arith)
  by_none false e =
      let s = eq_false n e in
      let r = leaf_room kind in
      (some_blocks n (leaf_most_of kind) (omega arith) s, holds_all n (leaf_most_of kind) (omega arith), omega (arith, no_more n (leaf_most_of kind) (omega arith)), λ t. at_most_items n (leaf_most_of kind) (omega arith) s)

  several : (c : Bool) → (n == 0) ≡ c → 2 ≤ (if c then 1 else div_ceil n (leaf_most_of kind)) → (if c then 1 else div_ceil n (leaf_most_of kind)) * leaf_most_of kind < n + leaf_most_of kind
  several true e two = absurd (omega arith)
  several false e two = let r = leaf_room kind in no_more n (leaf_most_of kind) (omega arith)

  pub leaves_some : 1 ≤ width kind n 0
  unfolding width leaves_for
  leaves_some = (by_none (n == 0) refl).0

  pub leaves_hold : n ≤ width kind n 0 * leaf_most_of kind
  unfolding width leaves_for
  leaves_hold = (by_none (n == 0) refl).1

  leaves_few : width kind n 0 * leaf_most_of kind ≤ n + leaf_most_of kind
  unfolding width leaves_for
  leaves_few = (by_none (n == 0) refl).2

  pub leaves_at_most : 1 ≤ n → width kind n 0 ≤ n
  unfolding width leaves_for
  leaves_at_most = (by_none (n == 0) refl).3

  pub leaves_needed : 2 ≤ width kind n 0 → width kind n 0 * leaf_most_of kind < n + leaf_most_of kind
  unfolding width leaves_for
  leaves_needed = several (n == 0) refl

  leaves_four : 168 * width kind n 0 ≤ n + 505
  leaves_four =
      let r = leaf_room kind in
      omega (arith, leaves_few, mul-le-mul_left (width kind n 0) r.0)

  -- ---- levels

  pub some_wide : (j : ℕ) → 1 ≤ width kind n j
  unfolding width
  some_wide zero = leaves_some
  some_wide (suc j) = let r = node_room kind in some_blocks (width kind n j) (node_most_of kind) (omega arith) (some_wide j)

  pub falls : (j : ℕ) → 2 ≤ width kind n j → 2 * width kind n (suc j) ≤ width kind n j
  unfolding width
  falls j two = let r = node_room kind in halved (width kind n j) (node_most_of kind) (omega arith) two

  -- a level is much wider than the next one
  pub rises : (j c : ℕ) → c < width kind n (suc j) → 91 * c < width kind n j
  unfolding width
  rises j c lt =
      let r = node_room kind in
      omega (arith, no_more (width kind n j) (node_most_of kind) (omega arith), mul-le-mul_right (node_most_of kind) lt, mul-le-mul_left c r.0)

  pub item_some : (j : ℕ) → 1 ≤ n → 1 ≤ items kind n j
  unfolding items
  item_some zero some = some
  item_some (suc j) some = some_wide j

  -- each block has something to hold
  pub enough : (j : ℕ) → 1 ≤ items kind n j → width kind n j ≤ items kind n j
  unfolding items width
  enough zero some = leaves_at_most some
  enough (suc j) some = let r = node_room kind in at_most_items (width kind n j) (node_most_of kind) (omega arith) some

  -- ---- sums

  pub begins_on : (j i : ℕ) → begin kind n j (i + 1) ≡ begin kind n j i + count kind n j i
  unfolding begin count
  begins_on j i = next_first (items kind n j) (width kind n j) i

  pub begins_at_none : (j : ℕ) → begin kind n j 0 ≡ 0
  unfolding begin
  begins_at_none j = none_first (items kind n j) (width kind n j)

  pub ends_at_all : (j : ℕ) → begin kind n j (width kind n j) ≡ items kind n j
  unfolding begin
  ends_at_all j = all_first (items kind n j) (width kind n j) (some_wide j)

  -- a level's blocks hold exactly the level below
  pub holds_below : (j : ℕ) → total (width kind n j) (count kind n j) ≡ items kind n j
  holds_below j = total_is (count kind n j) (begin kind n j) (begins_at_none j) (begins_on j) (width kind n j) ∙ ends_at_all j

  -- all levels together are the blocks
  pub all_levels : (levels : ℕ) → total levels (width kind n) ≡ start kind n levels
  unfolding total start
  all_levels zero = refl
  all_levels (suc j) = omega (arith, all_levels j)

  -- ---- what a block holds

  pub count_some : (j i : ℕ) → 1 ≤ items kind n j → 1 ≤ count kind n j i
  unfolding count
  count_some j i some = share_some (items kind n j) (width kind n j) i (some_wide j) (enough j some)

  pub leaf_count_most : (i : ℕ) → count kind n 0 i ≤ leaf_most_of kind
  unfolding count items
  leaf_count_most i = share_most n (width kind n 0) (leaf_most_of kind) i leaves_some leaves_hold

  pub node_count_most : (j i : ℕ) → count kind n (suc j) i ≤ node_most_of kind
  unfolding count items width
  node_count_most j i =
      let r = node_room kind in
      share_most (width kind n j) (div_ceil (width kind n j) (node_most_of kind)) (node_most_of kind) i (some_wide (suc j)) (holds_all (width kind n j) (node_most_of kind) (omega arith))

  pub leaf_count_least : (i : ℕ) → 2 ≤ width kind n 0 → leaf_least_of kind ≤ count kind n 0 i
  unfolding count items
  leaf_count_least i two =
      let r = leaf_room kind in
      share_least n (width kind n 0) (leaf_most_of kind) (leaf_least_of kind) i two (leaves_needed two) r.2 r.3

  pub node_count_least : (j i : ℕ) → 2 ≤ width kind n (suc j) → node_least_of kind ≤ count kind n (suc j) i
  unfolding count items width
  node_count_least j i two =
      let r = node_room kind in
      share_least (width kind n j) (div_ceil (width kind n j) (node_most_of kind)) (node_most_of kind) (node_least_of kind) i two (no_more (width kind n j) (node_most_of kind) (omega arith)) r.2 r.3

  -- ---- how many levels and blocks there may be

  pub lower_level : (level k : ℕ) → HasLevel kind n level → k ≤ level → HasLevel kind n k
  lower_level level k has le = λ j lt. has j (omega arith)

  pub few_blocks : (j : ℕ) → HasLevel kind n j → start kind n j + 2 * width kind n j ≤ 2 * width kind n 0
  unfolding start
  few_blocks zero has = omega arith
  few_blocks (suc j) has = omega (arith, few_blocks j (lower_level (suc j) j has (omega arith)), falls j (has j (omega arith)))

  high : (j : ℕ) → HasLevel kind n j → 2 ^ j * width kind n j ≤ width kind n 0
  high zero has = omega arith
  high (suc j) has =
      let e : 2 ^ suc j ≡ 2 * 2 ^ j = pow-succ' 2 j in
      rw e (omega (arith, high j (lower_level (suc j) j has (omega arith)), mul-le-mul_left (2 ^ j) (falls j (has j (omega arith)))))

  pub few_leaves : n < 2 ^ 64 → width kind n 0 < 2 ^ 57
  few_leaves fits = omega (arith, leaves_four)

  pub few_levels : (j : ℕ) → n < 2 ^ 64 → HasLevel kind n j → j ≤ 57
  few_levels j fits has = by_much (nat_lt 57 j) refl where
    by_much : (c : Bool) → nat_lt 57 j ≡ c → j ≤ 57
    by_much true e = absurd (omega (arith, few_leaves fits, high j has, mul-le-mul_left (2 ^ j) (some_wide j), pow_mono {i = 57} {j = j} (omega (arith, lt_true 57 j e))))
    by_much false e = lt_false 57 j e

  first_level : (k : ℕ) → 1 ≤ k → width kind n 0 ≤ start kind n k
  unfolding start
  first_level zero some = absurd (omega arith)
  first_level (suc zero) some = omega arith
  first_level (suc (suc k)) some = omega (arith, first_level (suc k) (omega arith))

  seven_are_wide : (levels : ℕ) → HasLevel kind n (levels - 1) → 6 < levels → 6240321451 < width kind n 0
  seven_are_wide levels has l =
      let w5 : 1 < width kind n 5 = has 5 (omega arith) in
      let w4 : 91 < width kind n 4 = rises 4 1 w5 in
      let w3 : 8281 < width kind n 3 = rises 3 91 w4 in
      let w2 : 753571 < width kind n 2 = rises 2 8281 w3 in
      let w1 : 68574961 < width kind n 1 = rises 1 753571 w2 in
      rises 0 68574961 w1

  -- less than 2 ^ 32 blocks are of at most six levels
  pub six_levels : (levels blocks : ℕ) → IsShape kind n levels blocks → blocks < 2 ^ 32 → levels ≤ 6
  six_levels levels blocks shape few = by_much (nat_lt 6 levels) refl where
    by_much : (c : Bool) → nat_lt 6 levels ≡ c → levels ≤ 6
    by_much true e = absurd (omega (arith, first_level levels shape.some, shape.all, few, seven_are_wide levels shape.below (lt_true 6 levels e)))
    by_much false e = lt_false 6 levels e

  pub count_most : (j i : ℕ) → count kind n j i ≤ 505
  count_most zero i = let r = leaf_room kind in omega (arith, leaf_count_most i)
  count_most (suc j) i = let r = node_room kind in omega (arith, node_count_most j i)

  -- ---- the steps of the code

  pub row_fits : (j : ℕ) (row : Row) → n < 2 ^ 64 → HasLevel kind n j → IsRow kind n j row → row.start + row.width < 2 ^ 64
  row_fits j row fits has is = omega (arith, is.wide, is.starts, few_blocks j has, few_leaves fits)

  pub row_falls : (j : ℕ) (row above : Row) → IsRow kind n j row → IsRow kind n (suc j) above → 1 < row.width → above.width < row.width
  row_falls j row above is next two = omega (arith, is.wide, next.wide, falls j (omega (arith, is.wide, two)), some_wide (suc j))

  pub row_is_top : (levels : ℕ) (row : Row) → 1 ≤ levels → HasLevel kind n (levels - 1) → IsRow kind n (levels - 1) row → row.width ≤ 1 → IsShape kind n levels (row.start + row.width)
  unfolding start
  row_is_top zero row some has is one = absurd (omega (arith, some))
  row_is_top (suc j) row some has is one =
      let e : suc j - 1 ≡ j = omega arith in
      let i : IsRow kind n j row = rw e at is in
      record { some = some; below = has; top = omega (arith, is.wide, some_wide (suc j - 1)); all = omega (arith, i.wide, i.starts) }

  pub row_share : (j i : ℕ) (row : Row) → IsRow kind n j row → (1 ≤ row.width) × (share row.items row.width i ≡ count kind n j i)
  unfolding count
  row_share j i row is = (omega (arith, is.wide, some_wide j), rw (is.holds, is.wide) refl)

  pub not_leaf : (j : ℕ) → (suc j == 0) ≡ false
  not_leaf j = grind (arith, nat_tests)

  pub at_most : (j i : ℕ) → count kind n j i ≤ most_of kind (j == 0)
  at_most zero i = leaf_count_most i
  at_most (suc j) i = rw (not_leaf j) (node_count_most j i)

  pub at_least : (j i : ℕ) → 2 ≤ width kind n j → least_of kind (j == 0) false ≤ count kind n j i
  at_least zero i two = leaf_count_least i two
  at_least (suc j) i two = rw (not_leaf j) (node_count_least j i two)

  -- ---- the records below a block

  pub start_on : (j : ℕ) → start kind n (suc j) ≡ start kind n j + width kind n j
  unfolding start
  start_on j = refl

  pub start_none : start kind n 0 ≡ 0
  unfolding start
  start_none = refl

  pub items_next : (j : ℕ) → items kind n (suc j) ≡ width kind n j
  unfolding items
  items_next j = refl

  pub items_leaf : (level : ℕ) → level ≡ 0 → items kind n level ≡ n
  unfolding items
  items_leaf zero e = refl
  items_leaf (suc j) e = absurd (omega arith)

  pub items_above : (level : ℕ) → 0 < level → items kind n level ≡ width kind n (level - 1)
  unfolding items
  items_above zero lt = absurd (omega arith)
  items_above (suc j) lt = let e : suc j - 1 ≡ j = omega arith in rw e refl

  pub first_of_leaf : (level i : ℕ) → level ≡ 0 → begin kind n level i ≡ first_record kind n level i
  unfolding first_record
  first_of_leaf zero i e = refl
  first_of_leaf (suc j) i e = absurd (omega arith)

  pub first_above : (level i first : ℕ) → 0 < level → first ≡ begin kind n level i → first_record kind n (level - 1) first ≡ first_record kind n level i
  unfolding first_record
  first_above zero i first lt e = absurd (omega arith)
  first_above (suc j) i first lt e = let d : suc j - 1 ≡ j = omega arith in rw (d, e) refl

  pub row_first : (j i : ℕ) (row : Row) → IsRow kind n j row → first_of row.items row.width i ≡ begin kind n j i
  unfolding begin
  row_first j i row is = rw (is.holds, is.wide) refl

  pub row_small : (j : ℕ) (row : Row) → n < 2 ^ 64 → HasLevel kind n j → IsRow kind n j row → row.start + row.width < 2 ^ 58
  row_small j row fits has is = omega (arith, is.wide, is.starts, few_blocks j has, few_leaves fits)

  pub level_small : (j : ℕ) → n < 2 ^ 64 → HasLevel kind n j → width kind n j < 2 ^ 58
  level_small j fits has = omega (arith, few_blocks j has, few_leaves fits)

  begin_step : (j i : ℕ) → begin kind n j i ≤ begin kind n j (i + 1)
  begin_step j i = omega (arith, begins_on j i)

  pub first_step : (j i : ℕ) → first_record kind n j i ≤ first_record kind n j (i + 1)
  unfolding first_record
  first_step zero i = begin_step 0 i
  first_step (suc j) i = up (first_record kind n j) (first_step j) (begin kind n (suc j) i) (begin kind n (suc j) (i + 1)) (begin_step (suc j) i)

  pub first_none : (j : ℕ) → first_record kind n j 0 ≡ 0
  unfolding first_record
  first_none zero = begins_at_none 0
  first_none (suc j) = rw (begins_at_none (suc j)) (first_none j)

  pub first_last : (j : ℕ) → first_record kind n j (width kind n j) ≡ n
  unfolding first_record
  first_last zero = ends_at_all 0 ∙ items_leaf 0 refl
  first_last (suc j) =
      let e : begin kind n (suc j) (width kind n (suc j)) ≡ width kind n j = ends_at_all (suc j) ∙ items_next j in
      rw e (first_last j)

  pub leaf_step : (i : ℕ) → first_record kind n 0 (i + 1) ≡ first_record kind n 0 i + count kind n 0 i
  unfolding first_record
  leaf_step i = begins_on 0 i

  -- the children of a block are of the level below
  pub children_within : (j i : ℕ) → i < width kind n (suc j) → begin kind n (suc j) i + count kind n (suc j) i ≤ width kind n j
  children_within j i lt =
      omega (arith, begins_on (suc j) i, up (begin kind n (suc j)) (begin_step (suc j)) (i + 1) (width kind n (suc j)) (omega arith), ends_at_all (suc j), items_next j)

  pub start_up : (a b : ℕ) → a ≤ b → start kind n a ≤ start kind n b
  start_up a b le = up (start kind n) start_step a b le where
    start_step : (i : ℕ) → start kind n i ≤ start kind n (i + 1)
    start_step i = let e : i + 1 ≡ suc i = omega arith in rw e (omega (arith, start_on i))

  -- a number is that of one block alone
  pub one_level : (j i k l : ℕ) → i < width kind n j → start kind n j + i ≡ k → start kind n l ≤ k → k < start kind n (suc l) → j ≡ l
  one_level j i k l lt e from to = by_lower (nat_lt j l) refl where
    by_upper : (c : Bool) → nat_lt l j ≡ c → l ≤ j → j ≡ l
    by_upper true h le = absurd (omega (arith, start_up (suc l) j (omega (arith, lt_true l j h))))
    by_upper false h le = omega (arith, lt_false l j h)

    by_lower : (c : Bool) → nat_lt j l ≡ c → j ≡ l
    by_lower true h = absurd (omega (arith, start_on j, start_up (suc j) l (omega (arith, lt_true j l h))))
    by_lower false h = by_upper (nat_lt l j) refl (lt_false j l h)
