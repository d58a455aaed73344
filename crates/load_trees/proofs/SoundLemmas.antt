-- The blocks of a new tree pass their tests.
use Rattle.std.proofs.Common.{◌≡◌, ℕ, zero, suc, ◌+◌, ◌-◌, ◌*◌, ◌<◌, ◌≤◌, Bool, true, false, List, [], ◌∷◌, ◌++◌, length, take, drop, Option, Some, None, refl, sym, ap, subst, ◌∙◌, inl, inr, arith}
use Rattle.std.specs.Prelude.{⊤, ◌⊎◌, ◌==◌, ◌&&◌, ◌||◌, not, nat_le, nat_lt, if◌then◌else◌, slice_index, All}
use Rattle.std.proofs.lemmas.Bool.{false≢true}
use Rattle.std.proofs.lemmas.Bool.Decides.{nat_tests}
use Rattle.byte_fields.specs.Below.{all_below}
use Rattle.byte_fields.specs.Fields.{field, has_uuid}
use Rattle.byte_fields.proofs.TestLemmas.{none_fails}
use Rattle.sblock.specs.Area.{area_of, child_of}
use Rattle.sblock.specs.Blocks.{numrecs, level_fits, most_of, least_of, count_fits, key_in, rises_at, is_rising, is_child_inside, is_record_inside, is_inside, are_inside, is_supported_at, are_supported, block_tests, block_fault, records_of, IsRising, AllInside, AllSupported, AreBlocks}
use Rattle.sblock.specs.Form.{Form, IsLawful, same_key}
use Rattle.sblock.specs.Headers.{left_of}
use Rattle.sblock.specs.Kinds.{has_high_keys_of, leaf_most_of}
use Rattle.sblock.specs.Lists.{items_from, IsAhead, Rises, Each}
use Rattle.sblock.specs.Spans.{join, span_of}
use Rattle.sblock.specs.declared.block.Frame.{Frame}
use Rattle.sblock.specs.declared.kind.Kind.{Kind}
use Rattle.sblock.specs.declared.spans.Span.{Span}
use Rattle.tree_defs.specs.Levels.{AllEntries, entries, recs_of, IsRight, IsSound}
use Rattle.tree_defs.specs.Tree.{Entry, want_of, entry_at, entries_from, agrees}
use Rattle.tree_defs.specs.declared.site.Site.{Site}
use Rattle.bulk_load.specs.Loaded.{piece, at_level, below, AreKeys, IsEntry}
use Rattle.bulk_load.specs.Shapes.{width, items, start, count, begin, first_record, IsShape}
use Rattle.bulk_load.specs.Trees.{Stand}
use Rattle.load_trees.specs.Given.{IsGiven, AreSoundBelow}
use Rattle.bulk_load.proofs.Numbers.{lt_true, lt_false, up}
use Rattle.bulk_load.proofs.RecordLemmas.{piece_join, piece_length, records_below, within}
use Rattle.bulk_load.proofs.ShapeLemmas.{some_wide, item_some, items_next, count_some, at_most, at_least, not_leaf, first_step, children_within, begins_on, begins_at_none, ends_at_all, leaf_step, leaves_needed, leaf_room, start_on, start_up, six_levels}
use Rattle.tree_defs.proofs.Counts.{AllBetween, fewer}
use Rattle.std.proofs.Math.Nat.{mul-le-mul_left, mul-le-mul_right}

-- ---- numbers

-- several leaves are of some records
records_needed : (kind : Kind) (n : ℕ) → 2 ≤ width kind n 0 → 1 ≤ n
records_needed kind n two = omega (arith, leaves_needed kind n two, mul-le-mul_right (leaf_most_of kind) two, leaf_room kind)

-- a block has some records below it
first_strict : (kind : Kind) (n j i : ℕ) → 1 ≤ n → first_record kind n j i < first_record kind n j (i + 1)
unfolding first_record
first_strict kind n zero i some = omega (arith, begins_on kind n 0 i, count_some kind n 0 i (item_some kind n 0 some))
first_strict kind n (suc j) i some =
    omega (
      arith,
      first_strict kind n j (begin kind n (suc j) i) some,
      up (first_record kind n j) (first_step kind n j) (begin kind n (suc j) i + 1) (begin kind n (suc j) (i + 1)) (omega (arith, begins_on kind n (suc j) i, count_some kind n (suc j) i (item_some kind n (suc j) some))),
    )

-- ---- lists

same_number : (a b : ℕ) → a ≡ b → (a == b) ≡ true
same_number a b h = grind (arith, nat_tests)

are_some : (a : ℕ) → nat_le 1 a ≡ true → 1 ≤ a
are_some a h = grind (arith, nat_tests)

not_above : (a b : ℕ) → a ≤ b → nat_le a b ≡ true
not_above a b h = grind (arith, nat_tests)

both : (a b : Bool) → a ≡ true → b ≡ true → (a && b) ≡ true
both true true h i = refl
both true false h i = i
both false b h i = h

first_part : (a b : Bool) → (a && b) ≡ true → a ≡ true
first_part true b h = refl
first_part false b h = h

second_part : (a b : Bool) → (a && b) ≡ true → b ≡ true
second_part true b h = h
second_part false b h = cc

not_true : (a : Bool) → not a ≡ true → a ≡ false
not_true true h = cc
not_true false h = refl

either_true : (a b : Bool) → b ≡ true → (not a || b) ≡ true
either_true true b h = h
either_true false b h = refl

module _ {A : Type 0} (before : A → A → Bool) where
  ahead_take : (n : ℕ) (a : A) (xs : List A) → IsAhead before a xs → IsAhead before a (take n xs)
  ahead_take zero a xs h = tt
  ahead_take (suc n) a [] h = tt
  ahead_take (suc n) a (x ∷ xs) h = h

  rises_take : (n : ℕ) (xs : List A) → Rises before xs → Rises before (take n xs)
  rises_take zero xs h = tt
  rises_take (suc n) [] h = tt
  rises_take (suc n) (x ∷ xs) h = (ahead_take n x xs h.0, rises_take n xs h.1)

  rises_drop : (n : ℕ) (xs : List A) → Rises before xs → Rises before (drop n xs)
  rises_drop zero xs h = h
  rises_drop (suc n) [] h = tt
  rises_drop (suc n) (x ∷ xs) h = rises_drop n xs h.1

  item_rises : (item : ℕ → A) (n i : ℕ) → Rises before (items_from item n i) → (k : ℕ) → i ≤ k → k + 1 < i + n → before (item k) (item (k + 1)) ≡ true
  item_rises item zero i h k low high = absurd (omega (arith, low, high))
  item_rises item (suc zero) i h k low high = absurd (omega (arith, low, high))
  item_rises item (suc (suc n)) i h k low high = by_place (nat_lt i k) refl (λ above. item_rises item (suc n) (i + 1) h.1 k (omega (arith, above)) (omega (arith, high))) where
    by_place : (c : Bool) → nat_lt i k ≡ c → (i < k → before (item k) (item (k + 1)) ≡ true) → before (item k) (item (k + 1)) ≡ true
    by_place true e later = later (lt_true i k e)
    by_place false e later = let s : k ≡ i = omega (arith, low, lt_false i k e) in rw s h.0

  -- of two lists that rise together, the first begins before the second
  across : ((a b c : A) → before a b ≡ true → before b c ≡ true → before a c ≡ true) → (r : A) (rs : List A) (s : A) (ss : List A) → Rises before ((r ∷ rs) ++ s ∷ ss) → before r s ≡ true
  across along r [] s ss h = h.0
  across along r (x ∷ xs) s ss h = along r x s h.0 (across along x xs s ss h.1)

each_take : {A : Type 0} (test : A → Bool) (n : ℕ) (xs : List A) → Each test xs → Each test (take n xs)
each_take test zero xs h = tt
each_take test (suc n) [] h = tt
each_take test (suc n) (x ∷ xs) h = (h.0, each_take test n xs h.1)

each_drop : {A : Type 0} (test : A → Bool) (n : ℕ) (xs : List A) → Each test xs → Each test (drop n xs)
each_drop test zero xs h = h
each_drop test (suc n) [] h = tt
each_drop test (suc n) (x ∷ xs) h = each_drop test n xs h.1

item_passes : {A : Type 0} (test : A → Bool) (item : ℕ → A) (n i : ℕ) → Each test (items_from item n i) → (k : ℕ) → i ≤ k → k < i + n → test (item k) ≡ true
item_passes test item zero i h k low high = absurd (omega (arith, low, high))
item_passes test item (suc n) i h k low high = by_place (nat_lt i k) refl (λ above. item_passes test item n (i + 1) h.1 k (omega (arith, above)) (omega (arith, high))) where
  by_place : (c : Bool) → nat_lt i k ≡ c → (i < k → test (item k) ≡ true) → test (item k) ≡ true
  by_place true e later = later (lt_true i k e)
  by_place false e later = let s : k ≡ i = omega (arith, low, lt_false i k e) in rw s h.0

number_passes : (test : ℕ → Bool) (xs : List ℕ) → Each test xs → (k : ℕ) → k < length xs → test (slice_index xs k) ≡ true
number_passes test [] h k lt = absurd (omega (arith, lt))
number_passes test (x ∷ xs) h zero lt = h.0
number_passes test (x ∷ xs) h (suc k) lt = number_passes test xs h.1 k (omega (arith, lt))

all_pass_below : (n : ℕ) (p : ℕ → Bool) → ((k : ℕ) → k < n → p k ≡ true) → all_below n p ≡ true
unfolding all_below
all_pass_below zero p h = refl
all_pass_below (suc n) p h = both (all_below n p) (p n) (all_pass_below n p (λ k lt. h k (omega (arith, lt)))) (h n (omega arith))

some_items : {A : Type 0} (xs : List A) → 1 ≤ length xs → (x : A) × (rest : List A) × (xs ≡ x ∷ rest)
some_items [] lt = absurd (omega (arith, lt))
some_items (x ∷ rest) lt = (x, rest, refl)

all_entries : {K : Type 0} (P : Entry K → Type 0) (entry : ℕ → Entry K) (n i : ℕ) → ((d : ℕ) → i ≤ d → d < i + n → P (entry d)) → AllEntries P (items_from entry n i)
all_entries P entry zero i h = tt
all_entries P entry (suc n) i h = (h i (omega arith) (omega arith), all_entries P entry n (i + 1) (λ d low high. h d (omega (arith, low)) (omega (arith, high))))

-- ---- keys

module _ {R K : Type 0} (form : Form R K) where
  keys_joined : (low high : K) (a : Span K) (o : Option (Span K)) → AreKeys form low high (join form (Some a) o) → same_key form low a.low ≡ true
  keys_joined low high a None h = h.0
  keys_joined low high a (Some b) h = h.0

  keys_first : (low high : K) (r : R) (rs : List R) → AreKeys form low high (span_of form (r ∷ rs)) → same_key form low (form.key_of r) ≡ true
  unfolding span_of
  keys_first low high r rs h = keys_joined low high (record { low = form.key_of r; high = form.high_key_of r }) (span_of form rs) h

  by_high : (has : Bool) (same : Bool) → (has ≡ true → same ≡ true) → (not has || same) ≡ true
  by_high true same h = h refl
  by_high false same h = refl

  agree_some : (e : Entry K) (a : Span K) (o : Option (Span K)) → AreKeys form e.low e.high (join form (Some a) o) → agrees form e (join form (Some a) o) ≡ true
  agree_some e a None h = both (same_key form e.low a.low) (not (has_high_keys_of form.kind) || same_key form e.high a.high) h.0 (by_high (has_high_keys_of form.kind) (same_key form e.high a.high) h.1)
  agree_some e a (Some b) h = both (same_key form e.low a.low) _ h.0 (by_high (has_high_keys_of form.kind) _ h.1)

  agree : (e : Entry K) (r : R) (rs : List R) → AreKeys form e.low e.high (span_of form (r ∷ rs)) → agrees form e (span_of form (r ∷ rs)) ≡ true
  unfolding span_of
  agree e r rs h = agree_some e (record { low = form.key_of r; high = form.high_key_of r }) (span_of form rs) h

  -- keys that are equal to two others stand in their order
  same_order : IsLawful form → (a b c d : K) → same_key form a c ≡ true → same_key form b d ≡ true → form.is_before c d ≡ true → form.is_before a b ≡ true
  same_order law a b c d ac bd h =
      let ca : form.is_before c a ≡ false = not_true (form.is_before c a) (second_part (not (form.is_before a c)) (not (form.is_before c a)) ac) in
      let bd_not : form.is_before b d ≡ false = not_true (form.is_before b d) (first_part (not (form.is_before b d)) (not (form.is_before d b)) bd) in
      let ad : form.is_before a d ≡ true = elim (law.total c a d h) [ inl t ↦ absurd (false≢true (sym ca ∙ t)) | inr t ↦ t ] in
      elim (law.total a b d ad) [ inl t ↦ t | inr t ↦ absurd (false≢true (sym bd_not ∙ t)) ]

module _ {R K : Type 0} (form : Form R K) (law : IsLawful form) (site : Site) (frame : Frame) (m : ℕ → List ℕ) (list : List R) (claimed : List ℕ) (levels : ℕ)
    (given : IsGiven form site frame list claimed levels) (stand : Stand form list claimed frame levels m) where
  abbrev A : ℕ → ℕ → ℕ
  A j i = at_level form.kind (length list) claimed j i

  numbers_between : (len : ℕ) (ps : List ℕ) → AreBlocks len ps → AllBetween len ps
  numbers_between len [] h = tt
  numbers_between len (p ∷ ps) h = (are_some p (first_part (nat_le 1 p) (nat_lt p len) h.0), lt_true p len (second_part (nat_le 1 p) (nat_lt p len) h.0), numbers_between len ps h.1)

  claimed_some : 1 ≤ length claimed
  claimed_some =
      let e : suc (levels - 1) ≡ levels = omega (arith, given.shape.some) in
      let s : start form.kind (length list) levels ≡ start form.kind (length list) (levels - 1) + width form.kind (length list) (levels - 1) = rw e at (start_on form.kind (length list) (levels - 1)) in
      omega (arith, given.shape.all, s, given.shape.top)

  group_some : 0 < site.bounds.length
  group_some = omega (arith, lt_true (slice_index claimed 0) site.bounds.length (second_part (nat_le 1 (slice_index claimed 0)) _ (number_passes (λ b. nat_le 1 b && nat_lt b site.bounds.length) claimed given.lie 0 claimed_some)))

  pub few : levels ≤ 6
  few = six_levels form.kind (length list) levels (length claimed) given.shape (omega (arith, fewer site.bounds.length claimed group_some (numbers_between site.bounds.length claimed given.lie) given.differ, given.short))

  -- a block's number is a claimed one
  has_claim : (j i : ℕ) → j < levels → i < width form.kind (length list) j → start form.kind (length list) j + i < length claimed
  has_claim j i lv lt = omega (arith, given.shape.all, start_on form.kind (length list) j, start_up form.kind (length list) (suc j) levels (omega (arith, lv)))

  lies : (j i : ℕ) → j < levels → i < width form.kind (length list) j → (nat_le 1 (A j i) && nat_lt (A j i) site.bounds.length) ≡ true
  lies j i lv lt = number_passes (λ b. nat_le 1 b && nat_lt b site.bounds.length) claimed given.lie (start form.kind (length list) j + i) (has_claim j i lv lt)

  pub root_lies : (1 ≤ slice_index claimed (length claimed - 1)) × (slice_index claimed (length claimed - 1) < site.bounds.length)
  root_lies =
      let h = number_passes (λ b. nat_le 1 b && nat_lt b site.bounds.length) claimed given.lie (length claimed - 1) (omega (arith, claimed_some)) in
      (are_some (slice_index claimed (length claimed - 1)) (first_part (nat_le 1 (slice_index claimed (length claimed - 1))) _ h), lt_true (slice_index claimed (length claimed - 1)) site.bounds.length (second_part (nat_le 1 (slice_index claimed (length claimed - 1))) _ h))

  recs_below : (j i : ℕ) → j < levels → i < width form.kind (length list) j → recs_of form m j (A j i) ≡ below form list j i
  recs_below j i lv lt = records_below form list claimed frame levels m given.written stand j i lv lt

  enough : (j i : ℕ) (root : Bool) → (root ≡ false → 2 ≤ width form.kind (length list) j) → (1 ≤ j → 1 ≤ count form.kind (length list) j i) → least_of form.kind (j == 0) root ≤ count form.kind (length list) j i
  enough j i false two some = at_least form.kind (length list) j i (two refl)
  enough zero i true two some = omega arith
  enough (suc j) i true two some = rw (not_leaf form.kind (length list) j) (some (omega arith))

  count_right : (j i : ℕ) (root : Bool) → (root ≡ false → 2 ≤ width form.kind (length list) j) → (1 ≤ j → 1 ≤ count form.kind (length list) j i) → count_fits form.kind (j == 0) root (count form.kind (length list) j i) ≡ true
  unfolding count_fits
  count_right j i root two some = both _ _ (not_above _ _ (enough j i root two some)) (not_above _ _ (at_most form.kind (length list) j i))

  level_right : (j : ℕ) → j < levels → (n : ℕ) → n ≡ j → level_fits j n ≡ true
  unfolding level_fits
  level_right j lv n e = both _ _ (not_above j 8 (omega (arith, few, lv))) (same_number n j e)

  -- the tests of the header, and the three of what stands behind it
  right : (j i : ℕ) (root : Bool) → j < levels → i < width form.kind (length list) j → (root ≡ false → 2 ≤ width form.kind (length list) j) → (1 ≤ j → 1 ≤ count form.kind (length list) j i)
      → is_rising form (j == 0) (area_of (m (A j i))) (count form.kind (length list) j i) ≡ true
      → are_inside form (j == 0) site.bounds (area_of (m (A j i))) (count form.kind (length list) j i) ≡ true
      → are_supported form (j == 0) (area_of (m (A j i))) (count form.kind (length list) j i) ≡ true
      → IsRight form m site j root (A j i)
  unfolding block_fault
  right j i root lv lt two some rising inside supported =
      let h = (stand j i lv lt).head in
      let place : 8 * (frame.first + A j i) ≡ 8 * (site.first + A j i) = ap (λ (f : ℕ). 8 * (f + A j i)) given.first in
      none_fails (block_tests form (m (A j i)) (want_of form.kind site j root (left_of (m (A j i))) (A j i))) (
        same_number _ _ h.magic,
        (
          level_right j lv (field 2 (m (A j i)) 4) h.level,
          (
            subst (λ (n : ℕ). count_fits form.kind (j == 0) root n ≡ true) (sym h.count) (count_right j i root two some),
            (
              same_number _ _ refl,
              (
                same_number _ _ (h.place ∙ place),
                (
                  same_number _ _ (h.owner ∙ given.group),
                  (
                    subst (λ (u : List ℕ). has_uuid (m (A j i)) 32 u ≡ true) given.uuid h.uuid,
                    (
                      h.sum,
                      (
                        subst (λ (n : ℕ). is_rising form (j == 0) (area_of (m (A j i))) n ≡ true) (sym h.count) rising,
                        (
                          subst (λ (n : ℕ). are_inside form (j == 0) site.bounds (area_of (m (A j i))) n ≡ true) (sym h.count) inside,
                          (
                            subst (λ (n : ℕ). are_supported form (j == 0) (area_of (m (A j i))) n ≡ true) (sym h.count) supported,
                            tt,
                          ),
                        ),
                      ),
                    ),
                  ),
                ),
              ),
            ),
          ),
        ),
      )

  -- ---- leaves

  module _ (i : ℕ) (lv : 0 < levels) (lt : i < width form.kind (length list) 0) where
    leaf_items : items_from (form.record_at (area_of (m (A 0 i)))) (count form.kind (length list) 0 i) 0 ≡ below form list 0 i
    unfolding recs_of records_of
    leaf_items = ap (λ (n : ℕ). items_from (form.record_at (area_of (m (A 0 i)))) n 0) (sym (stand 0 i lv lt).head.count) ∙ recs_below 0 i lv lt

    leaf_rises : is_rising form true (area_of (m (A 0 i))) (count form.kind (length list) 0 i) ≡ true
    unfolding is_rising rises_at key_in
    leaf_rises =
        let all : Rises (λ r s. form.is_before (form.key_of r) (form.key_of s)) (items_from (form.record_at (area_of (m (A 0 i)))) (count form.kind (length list) 0 i) 0) =
        subst (Rises (λ r s. form.is_before (form.key_of r) (form.key_of s))) (sym leaf_items) (rises_take (λ r s. form.is_before (form.key_of r) (form.key_of s)) _ _ (rises_drop (λ r s. form.is_before (form.key_of r) (form.key_of s)) _ list given.rises)) in
        all_pass_below (count form.kind (length list) 0 i - 1) _ (λ k low. item_rises (λ r s. form.is_before (form.key_of r) (form.key_of s)) (form.record_at (area_of (m (A 0 i)))) (count form.kind (length list) 0 i) 0 all k (omega arith) (omega (arith, low)))

    leaf_inside : are_inside form true site.bounds (area_of (m (A 0 i))) (count form.kind (length list) 0 i) ≡ true
    unfolding are_inside is_inside is_record_inside
    leaf_inside =
        let all : Each (form.is_in_range site.bounds) (items_from (form.record_at (area_of (m (A 0 i)))) (count form.kind (length list) 0 i) 0) =
        subst (Each (form.is_in_range site.bounds)) (sym leaf_items) (each_take (form.is_in_range site.bounds) _ _ (each_drop (form.is_in_range site.bounds) _ list given.inside)) in
        all_pass_below (count form.kind (length list) 0 i) _ (λ k low. either_true _ _ (item_passes (form.is_in_range site.bounds) (form.record_at (area_of (m (A 0 i)))) (count form.kind (length list) 0 i) 0 all k (omega arith) (omega (arith, low))))

    leaf_supported : are_supported form true (area_of (m (A 0 i))) (count form.kind (length list) 0 i) ≡ true
    unfolding are_supported is_supported_at
    leaf_supported =
        let all : Each form.is_supported (items_from (form.record_at (area_of (m (A 0 i)))) (count form.kind (length list) 0 i) 0) =
        subst (Each form.is_supported) (sym leaf_items) (each_take form.is_supported _ _ (each_drop form.is_supported _ list given.supported)) in
        all_pass_below (count form.kind (length list) 0 i) _ (λ k low. item_passes form.is_supported (form.record_at (area_of (m (A 0 i)))) (count form.kind (length list) 0 i) 0 all k (omega arith) (omega (arith, low)))

    leaf_right : (root : Bool) → (root ≡ false → 2 ≤ width form.kind (length list) 0) → IsRight form m site 0 root (A 0 i)
    leaf_right root two = right 0 i root lv lt two (λ one. absurd (omega (arith, one))) leaf_rises leaf_inside leaf_supported

  -- ---- nodes

  some_records : (j : ℕ) → suc j < levels → 1 ≤ length list
  some_records j lv = records_needed form.kind (length list) (given.shape.below 0 (omega (arith, lv)))

  below_some : (j c : ℕ) → suc j < levels → c < width form.kind (length list) j → 1 ≤ length (below form list j c)
  below_some j c lv lt =
      omega (arith, piece_length list (first_record form.kind (length list) j c) (first_record form.kind (length list) j (c + 1)) (first_step form.kind (length list) j c) (within form list claimed frame levels m given.written stand j (c + 1) (omega (arith, lt))), first_strict form.kind (length list) j c (some_records j lv))

  module _ (j i : ℕ) (lv : suc j < levels) (lt : i < width form.kind (length list) (suc j)) where
    abbrev c0 : ℕ
    c0 = begin form.kind (length list) (suc j) i

    abbrev n0 : ℕ
    n0 = count form.kind (length list) (suc j) i

    child_within : (e : ℕ) → e < n0 → c0 + e < width form.kind (length list) j
    child_within e low = omega (arith, low, children_within form.kind (length list) j i lt)

    entry : (e : ℕ) → e < n0 → IsEntry form list claimed j (c0 + e) (area_of (m (A (suc j) i))) e
    entry e low = (stand (suc j) i lv lt).has e low

    low_key : (e : ℕ) (low : e < n0) (r : R) (rs : List R) → below form list j (c0 + e) ≡ r ∷ rs → same_key form (form.key_at (area_of (m (A (suc j) i))) e) (form.key_of r) ≡ true
    low_key e low r rs is = keys_first form _ _ r rs (subst (λ (xs : List R). AreKeys form (form.key_at (area_of (m (A (suc j) i))) e) (form.high_key_at (area_of (m (A (suc j) i))) e) (span_of form xs)) is (entry e low).keys)

    key_rises : (e : ℕ) → e + 1 < n0 → form.is_before (form.key_at (area_of (m (A (suc j) i))) e) (form.key_at (area_of (m (A (suc j) i))) (e + 1)) ≡ true
    key_rises e low =
        let ea : e < n0 = omega (arith, low) in
        let next : c0 + (e + 1) ≡ c0 + e + 1 = omega arith in
        let x = some_items (below form list j (c0 + e)) (below_some j (c0 + e) lv (child_within e ea)) in
        let y = some_items (below form list j (c0 + (e + 1))) (below_some j (c0 + (e + 1)) lv (child_within (e + 1) low)) in
        let whole : below form list j (c0 + e) ++ below form list j (c0 + e + 1) ≡ piece list (first_record form.kind (length list) j (c0 + e)) (first_record form.kind (length list) j (c0 + e + 1 + 1)) =
        piece_join list (first_record form.kind (length list) j (c0 + e)) (first_record form.kind (length list) j (c0 + e + 1)) (first_record form.kind (length list) j (c0 + e + 1 + 1)) (first_step form.kind (length list) j (c0 + e)) (first_step form.kind (length list) j (c0 + e + 1)) in
        let rising : Rises (λ r s. form.is_before (form.key_of r) (form.key_of s)) (below form list j (c0 + e) ++ below form list j (c0 + e + 1)) =
        subst (Rises (λ r s. form.is_before (form.key_of r) (form.key_of s))) (sym whole) (rises_take (λ r s. form.is_before (form.key_of r) (form.key_of s)) _ _ (rises_drop (λ r s. form.is_before (form.key_of r) (form.key_of s)) _ list given.rises)) in
        let yis : below form list j (c0 + e + 1) ≡ y.0 ∷ y.1 = ap (below form list j) (sym next) ∙ y.2 in
        let both_are : below form list j (c0 + e) ++ below form list j (c0 + e + 1) ≡ (x.0 ∷ x.1) ++ y.0 ∷ y.1 = ap (λ (xs : List R). xs ++ below form list j (c0 + e + 1)) x.2 ∙ ap (λ (ys : List R). (x.0 ∷ x.1) ++ ys) yis in
        let firsts : form.is_before (form.key_of x.0) (form.key_of y.0) ≡ true =
        across (λ r s. form.is_before (form.key_of r) (form.key_of s)) (λ a b c ab bc. law.along (form.key_of a) (form.key_of b) (form.key_of c) ab bc) x.0 x.1 y.0 y.1 (subst (Rises (λ r s. form.is_before (form.key_of r) (form.key_of s))) both_are rising) in
        same_order form law (form.key_at (area_of (m (A (suc j) i))) e) (form.key_at (area_of (m (A (suc j) i))) (e + 1)) (form.key_of x.0) (form.key_of y.0) (low_key e ea x.0 x.1 x.2) (low_key (e + 1) low y.0 y.1 y.2) firsts

    node_rises : is_rising form false (area_of (m (A (suc j) i))) n0 ≡ true
    unfolding is_rising rises_at key_in
    node_rises = all_pass_below (n0 - 1) _ (λ k low. key_rises k (omega (arith, low)))

    node_inside : are_inside form false site.bounds (area_of (m (A (suc j) i))) n0 ≡ true
    unfolding are_inside is_inside is_child_inside
    node_inside =
        all_pass_below n0 _ (λ k low. subst (λ (b : ℕ). (nat_le 1 b && nat_lt b site.bounds.length) ≡ true) (sym (entry k low).child) (lies j (c0 + k) (omega (arith, lv)) (child_within k low)))

    node_supported : are_supported form false (area_of (m (A (suc j) i))) n0 ≡ true
    unfolding are_supported
    node_supported = refl

    node_right : (root : Bool) → (root ≡ false → 2 ≤ width form.kind (length list) (suc j)) → IsRight form m site (suc j) root (A (suc j) i)
    node_right root two =
        let leaf : (suc j == 0) ≡ false = not_leaf form.kind (length list) j in
        right (suc j) i root lv lt two (λ one. count_some form.kind (length list) (suc j) i (omega (arith, items_next form.kind (length list) j, some_wide form.kind (length list) j)))
        (rw leaf node_rises) (rw leaf node_inside) (rw leaf node_supported)

    child_agrees : (e : ℕ) → e < n0 → agrees form (entry_at form (area_of (m (A (suc j) i))) e) (span_of form (below form list j (c0 + e))) ≡ true
    child_agrees e low =
        let x = some_items (below form list j (c0 + e)) (below_some j (c0 + e) lv (child_within e low)) in
        subst (λ (xs : List R). agrees form (entry_at form (area_of (m (A (suc j) i))) e) (span_of form xs) ≡ true) (sym x.2)
        (agree form (entry_at form (area_of (m (A (suc j) i))) e) x.0 x.1 (subst (λ (xs : List R). AreKeys form (form.key_at (area_of (m (A (suc j) i))) e) (form.high_key_at (area_of (m (A (suc j) i))) e) (span_of form xs)) x.2 (entry e low).keys))

  -- ---- all blocks below one

  pub sound : (j i : ℕ) (root : Bool) → j < levels → i < width form.kind (length list) j → (root ≡ false → 2 ≤ width form.kind (length list) j) → IsSound form m site j root (A j i)
  unfolding IsSound entries_from
  sound zero i root lv lt two = leaf_right i lv lt root two
  sound (suc j) i root lv lt two = (
    node_right j i lv lt root two,
    subst (λ (n : ℕ). AllEntries (λ (e : Entry K). IsSound form m site j false e.child × (agrees form e (span_of form (recs_of form m j e.child)) ≡ true)) (items_from (entry_at form (area_of (m (A (suc j) i)))) n 0)) (sym (stand (suc j) i lv lt).head.count)
        (all_entries (λ (e : Entry K). IsSound form m site j false e.child × (agrees form e (span_of form (recs_of form m j e.child)) ≡ true)) (entry_at form (area_of (m (A (suc j) i)))) (count form.kind (length list) (suc j) i) 0
        (λ d low high.
        let lower : d < count form.kind (length list) (suc j) i = omega (arith, high) in
        let room : begin form.kind (length list) (suc j) i + d < width form.kind (length list) j = omega (arith, lower, children_within form.kind (length list) j i lt) in
        let leads : child_of form.kind (area_of (m (A (suc j) i))) d ≡ A j (begin form.kind (length list) (suc j) i + d) = ((stand (suc j) i lv lt).has d lower).child in
        subst (λ (p : ℕ). IsSound form m site j false p × (agrees form (entry_at form (area_of (m (A (suc j) i))) d) (span_of form (recs_of form m j p)) ≡ true)) (sym leads) (
          sound j (begin form.kind (length list) (suc j) i + d) false (omega (arith, lv)) room (λ no. given.shape.below j (omega (arith, lv))),
          subst (λ (xs : List R). agrees form (entry_at form (area_of (m (A (suc j) i))) d) (span_of form xs) ≡ true) (sym (recs_below j (begin form.kind (length list) (suc j) i + d) (omega (arith, lv)) room)) (child_agrees j i lv lt d lower),
        ))),
  )

pub sound_below : {R K : Type 0} (form : Form R K) → IsLawful form → AreSoundBelow form
sound_below form law site frame m list claimed levels given stand =
    let e : suc (levels - 1) ≡ levels = omega (arith, given.shape.some) in
    let s : start form.kind (length list) levels ≡ start form.kind (length list) (levels - 1) + width form.kind (length list) (levels - 1) = rw e at (start_on form.kind (length list) (levels - 1)) in
    let last : length claimed - 1 ≡ start form.kind (length list) (levels - 1) + 0 = omega (arith, s, given.shape.top, given.shape.all) in
    subst (λ (k : ℕ). IsSound form m site (levels - 1) true (slice_index claimed k)) (sym last)
    (sound form law site frame m list claimed levels given stand (levels - 1) 0 true (omega (arith, given.shape.some)) (omega (arith, given.shape.top)) (λ no. absurd (false≢true (sym no))))
