-- The rules of a fork's list and the steps' are the same.
use Rattle.std.proofs.Common.{◌≡◌, ℕ, ◌+◌, ◌-◌, ◌/◌, ◌^◌, ◌<◌, ◌≤◌, Bool, true, false, not, ◌&&◌, ◌||◌, List, [], ◌∷◌, ◌++◌, Option, Some, None, refl, sym, ap, ◌∙◌, subst, arith, eq-eqb}
use Rattle.std.specs.Prelude.{◌==◌, nat_le, nat_lt, min, filter, find, option_to_list, if◌then◌else◌}
use Rattle.std.specs.List.{flat_map, list_any}
use Rattle.std.specs.Option.{option_map_or}
use Rattle.std.proofs.lemmas.Bool.{and_parts}
use Rattle.std.proofs.lemmas.Bool.Decides.{nat_tests}
use Rattle.dinode_core.specs.declared.mapping.Mapping.{Mapping}
use Rattle.fork_change.specs.Lists as rule
use Rattle.fork_change.specs.Lists.{added, taken}
use Rattle.fs_state.specs.Lists.{only_if}
use Rattle.fs_change.specs.Records as step
use Rattle.fs_change.specs.Records.{add_mapping, take_piece}
use Rattle.rule_laws.specs.Forks.{AreInOrder, AreApart, AddsAlike, ConvertsAlike, TakesAlike, OccupiedAlike, PieceAlike}

-- ---- tests

grouped : (a b c d e : Bool) → (a && (b && (c && (d && e)))) ≡ ((((a && b) && c) && d) && e)
grouped true b c d e = inner b c d e
  where
    inner : (b c d e : Bool) → (b && (c && (d && e))) ≡ (((b && c) && d) && e)
    inner true true d e = refl
    inner true false d e = refl
    inner false c d e = refl
grouped false b c d e = refl

swapped : (a b : Bool) → (a && b) ≡ (b && a)
swapped true true = refl
swapped true false = refl
swapped false true = refl
swapped false false = refl

same_flag : (a b : Bool) → rule.is_same_flag a b ≡ step.is_same_flag a b
same_flag true b = refl
same_flag false b = refl

meets_alike : (l : ℕ) (p q : Mapping) → rule.meets l p q ≡ step.meets l p q
meets_alike l p q =
    ap (λ (f : Bool). (p.offset + p.count == q.offset) && ((p.block + p.count == q.block) && ((p.block / 2 ^ l == q.block / 2 ^ l) && (f && nat_le (p.count + q.count) 2097151)))) (same_flag p.unwritten q.unwritten)
    ∙ grouped (p.offset + p.count == q.offset) (p.block + p.count == q.block) (p.block / 2 ^ l == q.block / 2 ^ l) (step.is_same_flag p.unwritten q.unwritten) (nat_le (p.count + q.count) 2097151)

find_alike : (f g : Mapping → Bool) (ms : List Mapping) → ((m : Mapping) → f m ≡ g m) → find f ms ≡ find g ms
find_alike f g [] same = refl
find_alike f g (m ∷ ms) same = ap (λ (b : Bool). if b then Some m else find f ms) (same m) ∙ ap (λ (o : Option Mapping). if g m then Some m else o) (find_alike f g ms same)

filter_alike : (f g : Mapping → Bool) (ms : List Mapping) → ((m : Mapping) → f m ≡ g m) → filter f ms ≡ filter g ms
filter_alike f g [] same = refl
filter_alike f g (m ∷ ms) same = ap (λ (b : Bool). if b then m ∷ filter f ms else filter f ms) (same m) ∙ ap (λ (xs : List Mapping). if g m then m ∷ xs else xs) (filter_alike f g ms same)

any_alike : (f g : Mapping → Bool) (ms : List Mapping) → ((m : Mapping) → f m ≡ g m) → list_any f ms ≡ list_any g ms
any_alike f g [] same = refl
any_alike f g (m ∷ ms) same = ap (λ (b : Bool). b || list_any f ms) (same m) ∙ ap (λ (b : Bool). g m || b) (any_alike f g ms same)

-- ---- a piece taken out

option_if : (t : Bool) (m : Mapping) → option_to_list (if t then Some m else None) ≡ only_if t m
option_if true m = refl
option_if false m = refl

rest_alike : (offset n : ℕ) (m : Mapping) → rule.rest_of offset n m ≡ (if step.maps offset m then step.mapping_rest offset n m else m ∷ [])
rest_alike offset n m =
    let front = record m { count = offset - m.offset } in
    let back = record m { offset = offset + n; block = m.block + (offset + n - m.offset); count = m.offset + m.count - (offset + n) } in
    ap (λ (xs : List Mapping). if step.maps offset m then xs ++ option_to_list (rule.back_of offset n m) else m ∷ []) (option_if (nat_lt m.offset offset) front)
    ∙ ap (λ (xs : List Mapping). if step.maps offset m then only_if (nat_lt m.offset offset) front ++ xs else m ∷ []) (option_if (nat_lt (offset + n) (m.offset + m.count)) back)

pub takes_alike : TakesAlike
unfolding taken take_piece
takes_alike offset n [] = refl
takes_alike offset n (m ∷ ms) =
    ap (λ (xs : List Mapping). xs ++ flat_map (rule.rest_of offset n) ms) (rest_alike offset n m)
    ∙ ap (λ (xs : List Mapping). (if step.maps offset m then step.mapping_rest offset n m else m ∷ []) ++ xs) (takes_alike offset n ms)

not_not : (b : Bool) → b ≡ not (not b)
not_not true = refl
not_not false = refl

pub occupied_alike : OccupiedAlike
occupied_alike m ms =
    any_alike (rule.overlaps m) (λ p. nat_lt p.offset (m.offset + m.count) && nat_lt m.offset (p.offset + p.count)) ms (λ p. swapped (nat_lt m.offset (p.offset + p.count)) (nat_lt p.offset (m.offset + m.count)))
    ∙ not_not (list_any (λ (p : Mapping). nat_lt p.offset (m.offset + m.count) && nat_lt m.offset (p.offset + p.count)) ms)

found_maps : (f : Mapping → Bool) (ms : List Mapping) (m : Mapping) → find f ms ≡ Some m → f m ≡ true
found_maps f [] m h = cc
found_maps f (x ∷ xs) m h = by_test (λ e. found_maps f xs m e) (f x) refl h
  where
    by_test : (find f xs ≡ Some m → f m ≡ true) → (t : Bool) → f x ≡ t → (if t then Some x else find f xs) ≡ Some m → f m ≡ true
    by_test later true e h = subst (λ (y : Mapping). f y ≡ true) (let same : x ≡ m = cc in same) e
    by_test later false e h = later h

below_test : (m n : ℕ) → m ≤ n → nat_le m n ≡ true
below_test m n h = grind (arith, nat_tests)

from_le : (m n : ℕ) → nat_le m n ≡ true → m ≤ n
from_le m n h = grind (arith, nat_tests)

from_lt : (m n : ℕ) → nat_lt m n ≡ true → m < n
from_lt m n h = grind (arith, nat_tests)

piece_ends : (a c o n : ℕ) → a ≤ o → o < a + c → o + min n (c - (o - a)) ≤ a + c
piece_ends a c o n low high = omega (arith, low, high)

both_true : (a b : Bool) → a ≡ true → b ≡ true → (a && b) ≡ true
both_true true true h k = refl
both_true true false h k = k
both_true false b h k = h

pub piece_alike : PieceAlike
piece_alike offset n ms m h =
    let maps = and_parts (nat_le m.offset offset) (nat_lt offset (m.offset + m.count)) (found_maps (rule.maps offset) ms m h) in
    let k = min n (m.count - (offset - m.offset)) in
    let b = m.block + (offset - m.offset) in
    let ends = below_test (offset + k) (m.offset + m.count) (piece_ends m.offset m.count offset n (from_le m.offset offset maps.0) (from_lt offset (m.offset + m.count) maps.1)) in
    record {
      piece = ap (λ (o : Option Mapping). option_map_or (λ (x : Mapping). nat_le (offset + k) (x.offset + x.count) && (x.block + (offset - x.offset) == b)) o false) h ∙ both_true (nat_le (offset + k) (m.offset + m.count)) (b == b) ends (eq-eqb b b refl);
      flag = ap (λ (o : Option Mapping). option_map_or (λ (x : Mapping). x.unwritten) o false) h;
    }

-- ---- a mapping added

filter_twice : (p q : Mapping → Bool) (ms : List Mapping) → filter q (filter p ms) ≡ filter (λ m. p m && q m) ms
filter_twice p q [] = refl
filter_twice p q (m ∷ ms) = by_test (p m) (filter_twice p q ms)
  where
    by_test : (t : Bool) → filter q (filter p ms) ≡ filter (λ (x : Mapping). p x && q x) ms → filter q (if t then m ∷ filter p ms else filter p ms) ≡ (if t && q m then m ∷ filter (λ x. p x && q x) ms else filter (λ x. p x && q x) ms)
    by_test true later = ap (λ (xs : List Mapping). if q m then m ∷ xs else xs) later
    by_test false later = later

-- every one of them comes at this offset or behind it
abbrev Behind : ℕ → List Mapping → Type 0
Behind k [] = Unit {0}
Behind k (m ∷ ms) = (k ≤ m.offset) × Behind k ms

abbrev Sorted : List Mapping → Type 0
Sorted [] = Unit {0}
Sorted (m ∷ ms) = Behind m.offset ms × Sorted ms

behind_more : (k n : ℕ) (ms : List Mapping) → k ≤ n → Behind n ms → Behind k ms
behind_more k n [] h b = tt
behind_more k n (m ∷ ms) h b = let first = b.0 in (omega (arith, h, first), behind_more k n ms h b.1)

less : (a b : ℕ) → nat_lt a b ≡ true → a ≤ b
less a b h = grind (arith, nat_tests)

all_behind : (m : Mapping) (ms : List Mapping) → AreInOrder (m ∷ ms) → Behind m.offset ms
all_behind m [] h = tt
all_behind m (n ∷ ms) h = let lt = less m.offset n.offset h.0 in (lt, behind_more m.offset n.offset ms lt (all_behind n ms h.1))

sorted : (ms : List Mapping) → AreInOrder ms → Sorted ms
sorted [] h = tt
sorted (m ∷ ms) h = (all_behind m ms h, sorted ms h.1)

filter_behind : (k : ℕ) (p : Mapping → Bool) (ms : List Mapping) → Behind k ms → Behind k (filter p ms)
filter_behind k p [] b = tt
filter_behind k p (m ∷ ms) b = by_test (p m) (filter_behind k p ms b.1)
  where
    by_test : (t : Bool) → Behind k (filter p ms) → Behind k (if t then m ∷ filter p ms else filter p ms)
    by_test true later = (b.0, later)
    by_test false later = later

filter_sorted : (p : Mapping → Bool) (ms : List Mapping) → Sorted ms → Sorted (filter p ms)
filter_sorted p [] h = tt
filter_sorted p (m ∷ ms) h = by_test (p m) (filter_sorted p ms h.1)
  where
    by_test : (t : Bool) → Sorted (filter p ms) → Sorted (if t then m ∷ filter p ms else filter p ms)
    by_test true later = (filter_behind m.offset p ms h.0, later)
    by_test false later = later

not_less : (a b : ℕ) → nat_lt a b ≡ false → b ≤ a
not_less a b h = grind (arith, nat_tests)

is_not_less : (a b : ℕ) → b ≤ a → nat_lt a b ≡ false
is_not_less a b h = grind (arith, nat_tests)

none_before : (x : Mapping) (ms : List Mapping) → Behind x.offset ms → filter (rule.on_side true x) ms ≡ []
none_before x [] b = refl
none_before x (m ∷ ms) b = rw (is_not_less m.offset x.offset b.0) (none_before x ms b.1)

all_after : (x : Mapping) (ms : List Mapping) → Behind x.offset ms → filter (rule.on_side false x) ms ≡ ms
all_after x [] b = refl
all_after x (m ∷ ms) b = rw (is_not_less m.offset x.offset b.0) (ap (λ (xs : List Mapping). m ∷ xs) (all_after x ms b.1))

-- put into a list in order, it stands between those before it and those behind
module _ (x whole : Mapping) (same : whole.offset ≡ x.offset) where
  abbrev split : List Mapping → List Mapping
  split ms = filter (rule.on_side true x) ms ++ (whole ∷ filter (rule.on_side false x) ms)

  put_between : (ms : List Mapping) → Sorted ms → step.put_by (λ (p : Mapping). p.offset) whole ms ≡ split ms
  put_between [] h = refl
  put_between (m ∷ ms) h = by_test (nat_lt m.offset x.offset) refl (put_between ms h.1)
    where
      by_test : (t : Bool) → nat_lt m.offset x.offset ≡ t → step.put_by (λ (p : Mapping). p.offset) whole ms ≡ split ms → step.put_by (λ (p : Mapping). p.offset) whole (m ∷ ms) ≡ split (m ∷ ms)
      by_test true e later = let f : nat_lt m.offset whole.offset ≡ true = ap (λ (k : ℕ). nat_lt m.offset k) same ∙ e in rw (f, e) (ap (λ (xs : List Mapping). m ∷ xs) later)
      by_test false e later =
          let low = not_less m.offset x.offset e in
          let f : nat_lt m.offset whole.offset ≡ false = ap (λ (k : ℕ). nat_lt m.offset k) same ∙ e in
          let b = behind_more x.offset m.offset ms low h.0 in
          rw (f, e) (sym (ap (λ (xs : List Mapping). xs ++ (whole ∷ m ∷ filter (rule.on_side false x) ms)) (none_before x ms b) ∙ ap (λ (xs : List Mapping). whole ∷ m ∷ xs) (all_after x ms b)))

before_alike : (o : Option Mapping) (m : Mapping) → rule.joined_before o m ≡ step.joined_to o m
before_alike None m = refl
before_alike (Some p) m = refl

after_alike : (x : Mapping) (o : Option Mapping) → rule.joined_after x o ≡ option_map_or (step.joined_to (Some x)) o x
after_alike x None = refl
after_alike x (Some q) = refl

after_offset : (x : Mapping) (o : Option Mapping) → (option_map_or (step.joined_to (Some x)) o x).offset ≡ x.offset
after_offset x None = refl
after_offset x (Some q) = refl

module _ (l : ℕ) (m : Mapping) (ms : List Mapping) where
  abbrev keep : Mapping → Mapping → Bool
  keep x p = not (step.meets l p m || step.meets l x p)

  abbrev whole_of : Mapping → Mapping
  whole_of x = option_map_or (step.joined_to (Some x)) (find (step.meets l x) ms) x

  side_alike : (x : Mapping) (b : Bool) (p : Mapping) → rule.is_side l m x b p ≡ (keep x p && rule.on_side b x p)
  side_alike x b p =
      ap (λ (t : Bool). not (t || rule.meets l x p) && rule.on_side b x p) (meets_alike l p m)
      ∙ ap (λ (t : Bool). not (step.meets l p m || t) && rule.on_side b x p) (meets_alike l x p)

  side_of : (x : Mapping) (b : Bool) → filter (rule.is_side l m x b) ms ≡ filter (rule.on_side b x) (filter (keep x) ms)
  side_of x b = filter_alike (rule.is_side l m x b) (λ p. keep x p && rule.on_side b x p) ms (side_alike x b) ∙ sym (filter_twice (keep x) (rule.on_side b x) ms)

  whole_alike : (x : Mapping) → rule.with_after l x ms ≡ whole_of x
  whole_alike x = ap (rule.joined_after x) (find_alike (λ q. rule.meets l x q) (step.meets l x) ms (λ q. meets_alike l x q)) ∙ after_alike x (find (step.meets l x) ms)

  add_by : (x : Mapping) → Sorted ms → filter (rule.is_side l m x true) ms ++ (rule.with_after l x ms ∷ filter (rule.is_side l m x false) ms) ≡ step.put_by (λ (p : Mapping). p.offset) (whole_of x) (filter (keep x) ms)
  add_by x order =
      ap (λ (xs : List Mapping). xs ++ (rule.with_after l x ms ∷ filter (rule.is_side l m x false) ms)) (side_of x true)
      ∙ ap (λ (xs : List Mapping). filter (rule.on_side true x) (filter (keep x) ms) ++ (rule.with_after l x ms ∷ xs)) (side_of x false)
      ∙ ap (λ (w : Mapping). filter (rule.on_side true x) (filter (keep x) ms) ++ (w ∷ filter (rule.on_side false x) (filter (keep x) ms))) (whole_alike x)
      ∙ sym (put_between x (whole_of x) (after_offset x (find (step.meets l x) ms)) (filter (keep x) ms) (filter_sorted (keep x) ms order))

  first_alike : rule.with_before l m ms ≡ step.with_before l m ms
  first_alike = ap (λ (o : Option Mapping). rule.joined_before o m) (find_alike (λ p. rule.meets l p m) (λ p. step.meets l p m) ms (λ p. meets_alike l p m)) ∙ before_alike (find (λ (p : Mapping). step.meets l p m) ms) m

pub adds_alike : AddsAlike
unfolding added add_mapping
adds_alike l m ms order =
    add_by l m ms (rule.with_before l m ms) (sorted ms order)
    ∙ ap (λ (x : Mapping). step.put_by (λ (p : Mapping). p.offset) (whole_of l m ms x) (filter (keep l m ms x) ms)) (first_alike l m ms)

-- ---- a piece taken out and added again

to_less : (a b : ℕ) → a < b → nat_lt a b ≡ true
to_less a b h = grind (arith, nat_tests)

-- it comes before each of them
order_on : (m : Mapping) (ms : List Mapping) → Behind (m.offset + 1) ms → AreInOrder ms → AreInOrder (m ∷ ms)
order_on m [] behind order = (tt, tt)
order_on m (p ∷ ps) behind order = let first = behind.0 in (to_less m.offset p.offset (omega (arith, first)), order)

apart_behind : (m : Mapping) (ms : List Mapping) → AreApart (m ∷ ms) → Behind (m.offset + 1) ms × Behind (m.offset + m.count) ms
apart_behind m [] h = (tt, tt)
apart_behind m (p ∷ ps) h =
    let both = and_parts (nat_lt m.offset p.offset) (nat_le (m.offset + m.count) p.offset) h.0 in
    let later = (apart_behind p ps h.1).0 in
    let first = from_lt m.offset p.offset both.0 in
    let end = from_le (m.offset + m.count) p.offset both.1 in (
      (omega (arith, first), behind_more (m.offset + 1) (p.offset + 1) ps (omega (arith, first)) later),
      (end, behind_more (m.offset + m.count) (p.offset + 1) ps (omega (arith, end)) later),
    )

-- what is left of one mapping, in front of others
module _ (offset n : ℕ) (m : Mapping) where
  abbrev front : Mapping
  front = record m { count = offset - m.offset }

  abbrev back : Mapping
  back = record m { offset = offset + n; block = m.block + (offset + n - m.offset); count = m.offset + m.count - (offset + n) }

  abbrev is_front : Bool
  is_front = nat_lt m.offset offset

  abbrev is_back : Bool
  is_back = nat_lt (offset + n) (m.offset + m.count)

  front_on : (k : ℕ) (xs : List Mapping) → k ≤ m.offset → (t : Bool) → Behind k xs → Behind k (only_if t front ++ xs)
  front_on k xs low true behind = (low, behind)
  front_on k xs low false behind = behind

  back_on : (k : ℕ) (xs : List Mapping) → k ≤ offset + n → (t : Bool) → Behind k xs → Behind k (only_if t back ++ xs)
  back_on k xs low true behind = (low, behind)
  back_on k xs low false behind = behind

  in_parts : (s t : Bool) (xs : List Mapping) → (only_if s front ++ only_if t back) ++ xs ≡ only_if s front ++ (only_if t back ++ xs)
  in_parts true true xs = refl
  in_parts true false xs = refl
  in_parts false true xs = refl
  in_parts false false xs = refl

  order_back : (xs : List Mapping) → Behind (m.offset + m.count) xs → AreInOrder xs → (t : Bool) → is_back ≡ t → AreInOrder (only_if t back ++ xs)
  order_back xs behind order true h = let inside = from_lt (offset + n) (m.offset + m.count) h in order_on back xs (behind_more (offset + n + 1) (m.offset + m.count) xs (omega (arith, inside)) behind) order
  order_back xs behind order false h = order

  order_front : (xs : List Mapping) → Behind (m.offset + 1) xs → AreInOrder xs → (s t : Bool) → is_front ≡ s → AreInOrder (only_if t back ++ xs) → AreInOrder (only_if s front ++ (only_if t back ++ xs))
  order_front xs behind order true t h later = let first = from_lt m.offset offset h in order_on front (only_if t back ++ xs) (back_on (m.offset + 1) xs (omega (arith, first)) t behind) later
  order_front xs behind order false t h later = later

  rest_order : (xs : List Mapping) → Behind (m.offset + 1) xs → Behind (m.offset + m.count) xs → AreInOrder xs → AreInOrder (step.mapping_rest offset n m ++ xs)
  rest_order xs behind past order =
      subst AreInOrder (sym (in_parts is_front is_back xs)) (order_front xs behind order is_front is_back refl (order_back xs past order is_back refl))

  rest_behind : (k : ℕ) (xs : List Mapping) → k ≤ m.offset → m.offset ≤ offset → Behind k xs → Behind k (step.mapping_rest offset n m ++ xs)
  rest_behind k xs low at behind =
      subst (Behind k) (sym (in_parts is_front is_back xs)) (front_on k (only_if is_back back ++ xs) low is_front (back_on k xs (omega (arith, low, at)) is_back behind))

left_behind : (offset n k : ℕ) (ms : List Mapping) → Behind k ms → Behind k (take_piece offset n ms)
unfolding take_piece
left_behind offset n k [] behind = tt
left_behind offset n k (m ∷ ms) behind =
    let later = left_behind offset n k ms behind.1 in
    (elim (step.maps offset m) as (λ t. step.maps offset m ≡ t → Behind k ((if t then step.mapping_rest offset n m else m ∷ []) ++ take_piece offset n ms)) [
      | true ↦ λ h. rest_behind offset n m k (take_piece offset n ms) behind.0 (from_le m.offset offset (and_parts (nat_le m.offset offset) (nat_lt offset (m.offset + m.count)) h).0) later
      | false ↦ λ h. (behind.0, later)
    ]) refl

left_order : (offset n : ℕ) (ms : List Mapping) → AreApart ms → AreInOrder (take_piece offset n ms)
unfolding take_piece
left_order offset n [] apart = tt
left_order offset n (m ∷ ms) apart =
    let both = apart_behind m ms apart in
    let one = left_behind offset n (m.offset + 1) ms both.0 in
    let past = left_behind offset n (m.offset + m.count) ms both.1 in
    let later = left_order offset n ms apart.1 in
    elim (step.maps offset m) as (λ t. AreInOrder ((if t then step.mapping_rest offset n m else m ∷ []) ++ take_piece offset n ms)) [
      | true ↦ rest_order offset n m (take_piece offset n ms) one past later
      | false ↦ order_on m (take_piece offset n ms) one later
    ]

pub converts_alike : ConvertsAlike
converts_alike l offset n m ms apart =
    adds_alike l m (taken offset n ms) (subst AreInOrder (sym (takes_alike offset n ms)) (left_order offset n ms apart))
    ∙ ap (add_mapping l m) (takes_alike offset n ms)
