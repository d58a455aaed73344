-- Masks of free inodes, and the records of the chunks of a group.
use Rattle.std.proofs.Common.{◌≡◌, ℕ, zero, suc, ◌+◌, ◌*◌, ◌/◌, ◌%◌, ◌^◌, ◌<◌, ◌≤◌, Bool, true, false, cond, List, [], ◌∷◌, ◌++◌, All, Contains, length, get_or, drop, map, refl, ap, sym, ◌∙◌, inl, inr, arith, append_assoc, Option, Some, None}
use Rattle.std.specs.Prelude.{◌==◌, ◌&&◌, filter, sum_by, slice_index_or, count_ones, if◌then◌else◌}
use Rattle.std.specs.List.{list_all, count_by}
use Rattle.std.specs.Option.{is_some}
use Rattle.std.proofs.lemmas.Bool.{cases_Bool, false≢true, cases_lt}
use Rattle.std.proofs.lemmas.List.{append-nil}
use Rattle.std.proofs.lemmas.List.Sums.{sum_by-cons, sum_by-append}
use Rattle.std.proofs.lemmas.List.Elements.{All-contains, All-cons, All-nil}
use Rattle.rmap_recs.proofs.RisingLemmas.{in_front, in_rest, same_default}
use Rattle.std.proofs.lemmas.Simd.{ones-mask_l}
use Rattle.std.proofs.Math.Nat.{pow-suc, mul-suc, mul_assoc}
use Rattle.std.proofs.lemmas.Nat.{pow_below}
use Rattle.std.proofs.Math.Seq.{drop-cons}
use lib.Lanes.{mask_l}
use Rattle.byte_fields.specs.Below.{all_below}
use Rattle.byte_fields.proofs.BelowLemmas.{each_below}
use Rattle.geom.specs.Layout.{group_len_of, inode_at}
use Rattle.ino_recs.specs.declared.chunk.InoRec.{InoRec}
use Rattle.fs_state.specs.Apart.{is_chunk, is_listed, unit_verifies, block_verifies, verifies}
use Rattle.fs_state.specs.State.{State, CoreState, Broken, Whole}
use Rattle.fs_state.specs.Chunks.{chunks, inode_in}
use Rattle.fs_state.specs.Derive.{chunk_record, ino_of, is_free, over_free}
use Rattle.fs_state.specs.Lists.{numbers}
use Rattle.index_derive.specs.declared.inodes.UnitCores.{UnitCores}
use Rattle.index_derive.specs.Inodes.{AreModes, AreUnits, free_bits, is_free_at, is_zero, mask_in, mask_of, mode_of, record_of, records_from, records_of}

-- ---- sums over numbers

numbers_more : (a n : ℕ) → numbers a (suc n) ≡ numbers a n ++ (a + n) ∷ []
numbers_more a zero = let e : a ≡ a + 0 = omega arith in ap (λ (k : ℕ). k ∷ []) e
numbers_more a (suc n) =
    let e : (a + 1) + n ≡ a + suc n = omega arith in
    ap (λ (ks : List ℕ). a ∷ ks) (numbers_more (a + 1) n ∙ ap (λ (k : ℕ). numbers (a + 1) n ++ k ∷ []) e)

pub sum_more : (f : ℕ → ℕ) (a n : ℕ) → sum_by f (numbers a (suc n)) ≡ sum_by f (numbers a n) + f (a + n)
sum_more f a n =
    let one : sum_by f ((a + n) ∷ []) ≡ f (a + n) + 0 = sum_by-cons f (a + n) [] in
    let whole : sum_by f (numbers a (suc n)) ≡ sum_by f (numbers a n) + sum_by f ((a + n) ∷ []) = ap (sum_by f) (numbers_more a n) ∙ sum_by-append f (numbers a n) ((a + n) ∷ []) in
    omega (arith, whole, one)

pub sum_same : (f h : ℕ → ℕ) (a n : ℕ) → ((i : ℕ) → i < a + n → f i ≡ h i) → sum_by f (numbers a n) ≡ sum_by h (numbers a n)
sum_same f h a zero same = refl
sum_same f h a (suc n) same =
    let rest : sum_by f (numbers a n) ≡ sum_by h (numbers a n) = sum_same f h a n (λ i lt. same i (omega (arith, lt))) in
    let last : f (a + n) ≡ h (a + n) = same (a + n) (omega arith) in
    let left = sum_more f a n in
    let right = sum_more h a n in
    omega (arith, rest, last, left, right)

-- ---- a bit for each

abbrev pub bit_of : (ℕ → Bool) → ℕ → ℕ
bit_of p i = if p i then 2 ^ i else 0

abbrev pub one_of : (ℕ → Bool) → ℕ → ℕ
one_of p i = if p i then 1 else 0

bit_least : (p : ℕ → Bool) (i : ℕ) → bit_of p i ≤ 2 ^ i
bit_least p i = elim (p i) as (λ b. (if b then 2 ^ i else 0) ≤ 2 ^ i) [ true ↦ omega arith | false ↦ omega arith ]

pub bits_below : (p : ℕ → Bool) (n : ℕ) → sum_by (bit_of p) (numbers 0 n) < 2 ^ n
bits_below p zero = omega arith
bits_below p (suc n) =
    let rest = bits_below p n in
    let more : sum_by (bit_of p) (numbers 0 (suc n)) ≡ sum_by (bit_of p) (numbers 0 n) + bit_of p (0 + n) = sum_more (bit_of p) 0 n in
    let at : bit_of p (0 + n) ≡ bit_of p n = ap (bit_of p) (let e : 0 + n ≡ n = omega arith in e) in
    let least : bit_of p n ≤ 2 ^ n = bit_least p n in
    let twice : 2 ^ suc n ≡ 2 ^ n * 2 = pow-suc 2 n in
    omega (arith, rest, more, at, least, twice)

added : (x s t u : ℕ) → s ≡ t → u ≡ t + x → x + s ≡ u
added x s t u a b = omega (arith, a, b)

-- the bits as a mask whose lowest bit is the first of a list
bits_mask : (p : ℕ → Bool) (a n : ℕ) → sum_by (bit_of p) (numbers a n) ≡ 2 ^ a * mask_l (map p (numbers a n))
bits_mask p a zero = omega arith
bits_mask p a (suc n) =
    let rest : sum_by (bit_of p) (numbers (a + 1) n) ≡ 2 ^ (a + 1) * mask_l (map p (numbers (a + 1) n)) = bits_mask p (a + 1) n in
    let next : a + 1 ≡ suc a = omega arith in
    let twice : 2 ^ (a + 1) ≡ 2 ^ a * 2 = ap (λ (k : ℕ). 2 ^ k) next ∙ pow-suc 2 a in
    sum_by-cons (bit_of p) a (numbers (a + 1) n) ∙ first (p a) (2 ^ a) (2 ^ (a + 1)) (mask_l (map p (numbers (a + 1) n))) (sum_by (bit_of p) (numbers (a + 1) n)) twice rest
  where
    first : (b : Bool) (x y m s : ℕ) → y ≡ x * 2 → s ≡ y * m → (if b then x else 0) + s ≡ x * (cond b 1 0 + 2 * m)
    first true x y m s e f =
        let a : s ≡ x * (2 * m) = f ∙ ap (λ (k : ℕ). k * m) e ∙ mul_assoc x 2 m in
        let z : 1 + 2 * m ≡ suc (2 * m) = omega arith in
        let b : x * (1 + 2 * m) ≡ x * (2 * m) + x = ap (λ (k : ℕ). x * k) z ∙ mul-suc x (2 * m) in
        added x s (x * (2 * m)) (x * (1 + 2 * m)) a b
    first false x y m s e f =
        let a : s ≡ x * (2 * m) = f ∙ ap (λ (k : ℕ). k * m) e ∙ mul_assoc x 2 m in
        let z : 0 + 2 * m ≡ 2 * m = omega arith in
        let y : 0 + s ≡ s = omega arith in
        y ∙ a ∙ ap (λ (k : ℕ). x * k) (sym z)

ones_sum : (p : ℕ → Bool) (xs : List ℕ) → count_by p xs ≡ sum_by (one_of p) xs
ones_sum p xs = refl

pub ones_are : (p : ℕ → Bool) (n : ℕ) → count_ones (sum_by (bit_of p) (numbers 0 n)) ≡ sum_by (one_of p) (numbers 0 n)
ones_are p n =
    let mask : sum_by (bit_of p) (numbers 0 n) ≡ mask_l (map p (numbers 0 n)) = let e = bits_mask p 0 n in omega (arith, e) in
    ap count_ones mask ∙ ones-mask_l p (numbers 0 n) ∙ ones_sum p (numbers 0 n)

-- ---- the mask, bit by bit

pub bit_small : (i : ℕ) → i < 64 → 2 ^ i ≤ 9223372036854775808
bit_small i lt = elim (cases_lt i 63) [
  | inl below ↦ let p : 2 ^ i < 2 ^ 63 = pow_below i 63 below in omega (arith, p)
  | inr above ↦ let e : i ≡ 63 = omega (arith, lt, above) in let p : 2 ^ i ≡ 2 ^ 63 = ap (λ (k : ℕ). 2 ^ k) e in omega (arith, p)
]

pub bits_none : (ms : List (Option ℕ)) → 0 ≡ free_bits 0 ms
unfolding free_bits
bits_none ms = refl

bits_fit : (n : ℕ) (ms : List (Option ℕ)) → free_bits n ms < 2 ^ n
unfolding free_bits
bits_fit n ms = bits_below (is_free_at ms) n

pub fit_so_far : (n free : ℕ) (ms : List (Option ℕ)) → free ≡ free_bits n ms → free < 2 ^ n
fit_so_far n free ms is = let h = bits_fit n ms in omega (arith, is, h)

bits_more : (i : ℕ) (ms : List (Option ℕ)) → free_bits (i + 1) ms ≡ free_bits i ms + bit_of (is_free_at ms) i
unfolding free_bits
bits_more i ms =
    let next : i + 1 ≡ suc i = omega arith in
    let at : 0 + i ≡ i = omega arith in
    ap (λ (n : ℕ). sum_by (bit_of (is_free_at ms)) (numbers 0 n)) next ∙ sum_more (bit_of (is_free_at ms)) 0 i ∙ ap (λ (k : ℕ). sum_by (bit_of (is_free_at ms)) (numbers 0 i) + bit_of (is_free_at ms) k) at

-- ---- the modes of a unit's cores

is_some_at : (ms : List (Option ℕ)) (i : ℕ) (d : Option ℕ) → list_all is_some ms ≡ true → i < length ms → is_some (slice_index_or ms i d) ≡ true
is_some_at [] i d all lt = absurd (omega (arith, lt))
is_some_at (Some m ∷ ms) zero d all lt = refl
is_some_at (None ∷ ms) i d all lt = absurd (false≢true all)
is_some_at (Some m ∷ ms) (suc i) d all lt = is_some_at ms i d all (omega (arith, lt))

pub all_some : (ms : List (Option ℕ)) → ((i : ℕ) (d : Option ℕ) → i < length ms → is_some (slice_index_or ms i d) ≡ true) → list_all is_some ms ≡ true
all_some [] each = refl
all_some (Some m ∷ ms) each = all_some ms (λ i d lt. each (suc i) d (omega (arith, lt)))
all_some (None ∷ ms) each = absurd (false≢true (each 0 None (omega arith)))

pub none_some : (ms : List (Option ℕ)) (i : ℕ) (d : Option ℕ) → i < length ms → slice_index_or ms i d ≡ None → list_all is_some ms ≡ false
none_some [] i d lt none = absurd (omega (arith, lt))
none_some (None ∷ ms) i d lt none = refl
none_some (Some m ∷ ms) zero d lt none = absurd (false≢true (sym (ap is_some none)))
none_some (Some m ∷ ms) (suc i) d lt none = none_some ms i d (omega (arith, lt)) none

pub free_here : (ms : List (Option ℕ)) (i : ℕ) (d : Option ℕ) → i < length ms → is_free_at ms i ≡ is_zero (slice_index_or ms i d)
free_here [] i d lt = absurd (omega (arith, lt))
free_here (m ∷ ms) zero d lt = refl
free_here (m ∷ ms) (suc i) d lt = free_here ms i d (omega (arith, lt))

pub next_some : (ms : List (Option ℕ)) (i : ℕ) (e : Option ℕ) (m : ℕ) → i < length ms → slice_index_or ms i e ≡ Some m → ((k : ℕ) (d : Option ℕ) → k < i → is_some (slice_index_or ms k d) ≡ true)
    → (k : ℕ) (d : Option ℕ) → k < i + 1 → is_some (slice_index_or ms k d) ≡ true
next_some ms i e m within here before k d lt = elim (cases_lt k i) [
  | inl front ↦ before k d front
  | inr on ↦
      let at : k ≡ i = omega (arith, lt, on) in
      ap (λ (n : ℕ). is_some (slice_index_or ms n d)) at ∙ ap is_some (same_default ms i d e within ∙ here)
]

pub next_bits : (ms : List (Option ℕ)) (i : ℕ) (e : Option ℕ) (m old new : ℕ) → i < length ms → slice_index_or ms i e ≡ Some m → old ≡ free_bits i ms → new ≡ old + (if m == 0 then 2 ^ i else 0) → new ≡ free_bits (i + 1) ms
next_bits ms i e m old new within here so_far made =
    let bit : bit_of (is_free_at ms) i ≡ (if m == 0 then 2 ^ i else 0) = ap (λ (b : Bool). if b then 2 ^ i else 0) (free_here ms i e within ∙ ap is_zero here) in
    let more = bits_more i ms in
    omega (arith, so_far, made, bit, more)

pub mask_none : (ms : List (Option ℕ)) (i : ℕ) (d : Option ℕ) → i < length ms → slice_index_or ms i d ≡ None → None ≡ mask_of ms
unfolding mask_of
mask_none ms i d lt none = sym (ap (λ (b : Bool). if b then Some (free_bits 64 ms) else None) (none_some ms i d lt none))

pub mask_found : (ms : List (Option ℕ)) (free n : ℕ) → length ms ≡ 64 → n ≡ 64 → ((k : ℕ) (d : Option ℕ) → k < n → is_some (slice_index_or ms k d) ≡ true) → free ≡ free_bits n ms → Some free ≡ mask_of ms
unfolding mask_of
mask_found ms free n whole end each bits =
    ap Some (bits ∙ ap (λ (k : ℕ). free_bits k ms) end) ∙ sym (ap (λ (b : Bool). if b then Some (free_bits 64 ms) else None) (all_some ms (λ i d lt. each i d (omega (arith, lt, whole, end)))))

-- ---- against the cores of a state

pub all_of : (n : ℕ) (p : ℕ → Bool) → ((j : ℕ) → j < n → p j ≡ true) → all_below n p ≡ true
unfolding all_below
all_of zero p each = refl
all_of (suc n) p each =
    let front : all_below n p ≡ true = all_of n p (λ j lt. each j (omega (arith, lt))) in
    let last : p n ≡ true = each n (omega arith) in
    rw (front, last) refl

free_is : (o : Option CoreState) → is_zero (mode_of o) ≡ is_free o
free_is None = refl
free_is (Some (Broken fault)) = refl
free_is (Some (Whole inode)) = refl

verifies_is : (o : Option CoreState) → is_some (mode_of o) ≡ verifies o
verifies_is None = refl
verifies_is (Some (Broken fault)) = refl
verifies_is (Some (Whole inode)) = refl

module _ (a : State) (g u : ℕ) where
  slot : (j s : ℕ) → s < 8 → inode_in a g u (8 * j + s) ≡ inode_at a.geometry g (8 * u + j) s
  slot j s lt =
      let block : (8 * j + s) / 8 ≡ j = omega (arith, lt) in
      let place : (8 * j + s) % 8 ≡ s = omega (arith, lt) in
      λ i. inode_at a.geometry g (8 * u + block i) (place i)

  -- each of the 64 verifies where the unit does
  each_verifies : unit_verifies a.geometry a.core g u ≡ true → (i : ℕ) → i < 64 → verifies (a.core (inode_in a g u i)) ≡ true
  unfolding unit_verifies block_verifies
  each_verifies h i lt =
      let block = each_below (λ j. block_verifies a.geometry a.core g (8 * u + j)) 8 (i / 8) h (omega (arith, lt)) in
      each_below (λ s. verifies (a.core (inode_at a.geometry g (8 * u + i / 8) s))) 8 (i % 8) block (omega arith)

  all_verify : ((i : ℕ) → i < 64 → verifies (a.core (inode_in a g u i)) ≡ true) → unit_verifies a.geometry a.core g u ≡ true
  unfolding unit_verifies block_verifies
  all_verify each = all_of 8 (λ j. block_verifies a.geometry a.core g (8 * u + j)) (λ j lt. all_of 8 (λ s. verifies (a.core (inode_at a.geometry g (8 * u + j) s))) (λ s more.
      ap (λ (n : ℕ). verifies (a.core n)) (sym (slot j s more)) ∙ each (8 * j + s) (omega (arith, lt, more))))

  module _ (modes : List (Option ℕ)) (are : AreModes a g u modes) where
    said : (i : ℕ) → i < 64 → is_free_at modes i ≡ is_free (a.core (inode_in a g u i))
    said i lt = free_here modes i None (let w = are.whole in omega (arith, lt, w)) ∙ ap is_zero (are.each i None lt) ∙ free_is (a.core (inode_in a g u i))

    bits_said : free_bits 64 modes ≡ over_free a g u (λ i. 2 ^ i)
    unfolding free_bits
    bits_said = sum_same (bit_of (is_free_at modes)) (λ i. if is_free (a.core (inode_in a g u i)) then 2 ^ i else 0) 0 64 (λ i lt. ap (λ (b : Bool). if b then 2 ^ i else 0) (said i (omega (arith, lt))))

    same_test : list_all is_some modes ≡ unit_verifies a.geometry a.core g u
    same_test = elim (cases_Bool (list_all is_some modes)) [
      | inl all ↦ all ∙ sym (all_verify (λ i lt. sym (verifies_is (a.core (inode_in a g u i))) ∙ ap is_some (sym (are.each i None lt)) ∙ is_some_at modes i None all (let w = are.whole in omega (arith, lt, w))))
      | inr some ↦ elim (cases_Bool (unit_verifies a.geometry a.core g u)) [
        | inl passes ↦ absurd (false≢true (sym some ∙ all_some modes (λ i d lt. ap is_some (are.each i d (let w = are.whole in omega (arith, lt, w))) ∙ verifies_is (a.core (inode_in a g u i)) ∙ each_verifies passes i (let w = are.whole in omega (arith, lt, w)))))
        | inr fails ↦ some ∙ sym fails
      ]
    ]

    pub mask_said : mask_of modes ≡ mask_in a g u
    unfolding mask_of
    mask_said = λ i. if same_test i then Some (bits_said i) else None

-- ---- the records of all units

by_each : {X : Type 0} (P : X → Type 0) (xs : List X) → ((y : X) → Contains xs y → P y) → All P xs
by_each P [] each = All-nil P
by_each P (x ∷ xs) each = All-cons P x xs (each x (in_front x xs)) (by_each P xs (λ y c. each y (in_rest x xs y c)))

all_rest : {X : Type 0} (P : X → Type 0) (x : X) (xs : List X) → All P (x ∷ xs) → All P xs
all_rest P x xs all = by_each P xs (λ y c. All-contains P (x ∷ xs) y all (in_rest x xs y c))

record_is : (a : State) (g u : ℕ) → record_of u (over_free a g u (λ i. 2 ^ i)) ≡ chunk_record a g u
record_is a g u =
    let count : count_ones (over_free a g u (λ i. 2 ^ i)) ≡ over_free a g u (λ i. 1) = ones_are (λ i. is_free (a.core (inode_in a g u i))) 64 in
    λ i. record { startino = 64 * u; holemask = 0; count = 64; freecount = count i; free = over_free a g u (λ n. 2 ^ n) }

drop_none : (cs : List UnitCores) (i : ℕ) → length cs ≤ i → drop i cs ≡ []
drop_none [] zero le = refl
drop_none [] (suc i) le = refl
drop_none (c ∷ cs) zero le = absurd (omega (arith, le))
drop_none (c ∷ cs) (suc i) le = drop_none cs i (omega (arith, le))

pub more_left : (old new all : List InoRec) (cs : List UnitCores) (i : ℕ) (d : UnitCores) → i < length cs → new ≡ old ++ records_from (get_or cs i d).unit (get_or cs i d).free → old ++ records_of (drop i cs) ≡ all → new ++ records_of (drop (i + 1) cs) ≡ all
unfolding records_of
more_left old new all cs i d lt made left =
    let next : i + 1 ≡ suc i = omega arith in
    let c : UnitCores = get_or cs i d in
    let front : drop i cs ≡ c ∷ drop (suc i) cs = drop-cons cs i d lt in
    ap (λ (xs : List InoRec). xs ++ records_of (drop (i + 1) cs)) made
    ∙ append_assoc old (records_from c.unit c.free) (records_of (drop (i + 1) cs))
    ∙ ap (λ (n : ℕ). old ++ (records_from c.unit c.free ++ records_of (drop n cs))) next
    ∙ ap (λ (xs : List UnitCores). old ++ records_of xs) (sym front)
    ∙ left

pub none_left_over : (old all : List InoRec) (cs : List UnitCores) (i : ℕ) → length cs ≤ i → old ++ records_of (drop i cs) ≡ all → old ≡ all
unfolding records_of
none_left_over old all cs i le left = sym (append-nil old) ∙ sym (ap (λ (xs : List UnitCores). old ++ records_of xs) (drop_none cs i le)) ∙ left

module _ (a : State) (g : ℕ) where
  none_left : (c : UnitCores) (cs : List UnitCores) → map (λ (x : UnitCores). x.unit) (c ∷ cs) ≡ [] → ⊥
  none_left c cs e = let l : length (map (λ (x : UnitCores). x.unit) (c ∷ cs)) ≡ 0 = ap (λ (xs : List ℕ). length xs) e in absurd (omega (arith, l))

  empty_left : (n : ℕ) (ns : List ℕ) → [] ≡ n ∷ ns → ⊥
  empty_left n ns e = let l : 0 ≡ length (n ∷ ns) = ap (λ (xs : List ℕ). length xs) e in absurd (omega (arith, l))

  head_is : (m n : ℕ) (ms ns : List ℕ) → m ∷ ms ≡ n ∷ ns → m ≡ n
  head_is m n ms ns e = cc

  rest_is : (m n : ℕ) (ms ns : List ℕ) → m ∷ ms ≡ n ∷ ns → ms ≡ ns
  rest_is m n ms ns e = cc

  from_unit : (u : ℕ) → records_from u (mask_in a g u) ≡ map (chunk_record a g) (cond (unit_verifies a.geometry a.core g u) (u ∷ []) [])
  from_unit u = elim (unit_verifies a.geometry a.core g u) as (λ b. records_from u (if b then Some (over_free a g u (λ i. 2 ^ i)) else None) ≡ map (chunk_record a g) (cond b (u ∷ []) [])) [
    | true ↦ ap (λ (r : InoRec). r ∷ []) (record_is a g u)
    | false ↦ refl
  ]

  chunk_is : (u : ℕ) → is_listed a g u ≡ true → is_chunk a g u ≡ unit_verifies a.geometry a.core g u
  unfolding is_chunk
  chunk_is u h = ap (λ (b : Bool). b && unit_verifies a.geometry a.core g u) h

  no_chunk : (u : ℕ) → is_listed a g u ≡ false → is_chunk a g u ≡ false
  unfolding is_chunk
  no_chunk u h = ap (λ (b : Bool). b && unit_verifies a.geometry a.core g u) h

  more_records : (b : Bool) (u : ℕ) (us : List ℕ) → map (chunk_record a g) (cond b (u ∷ []) []) ++ map (chunk_record a g) us ≡ map (chunk_record a g) (cond b (u ∷ us) us)
  more_records true u us = refl
  more_records false u us = refl

  from_head : (n : ℕ) (ns : List ℕ) → ((cs : List UnitCores) → map (λ (c : UnitCores). c.unit) cs ≡ filter (is_listed a g) ns → All (λ c. c.free ≡ mask_in a g c.unit) cs → records_of cs ≡ map (chunk_record a g) (filter (is_chunk a g) ns))
      → (cs : List UnitCores) → is_listed a g n ≡ true → map (λ (c : UnitCores). c.unit) cs ≡ n ∷ filter (is_listed a g) ns → All (λ c. c.free ≡ mask_in a g c.unit) cs
      → records_of cs ≡ map (chunk_record a g) (filter (is_chunk a g) (n ∷ ns))
  unfolding records_of
  from_head n ns behind [] h e masks = absurd (empty_left n (filter (is_listed a g) ns) e)
  from_head n ns behind (c ∷ cs) h e masks =
      let unit : c.unit ≡ n = head_is c.unit n (map (λ (x : UnitCores). x.unit) cs) (filter (is_listed a g) ns) e in
      let mask : c.free ≡ mask_in a g c.unit = All-contains (λ (x : UnitCores). x.free ≡ mask_in a g x.unit) (c ∷ cs) c masks (in_front c cs) in
      let rest = behind cs (rest_is c.unit n (map (λ (x : UnitCores). x.unit) cs) (filter (is_listed a g) ns) e) (all_rest (λ (x : UnitCores). x.free ≡ mask_in a g x.unit) c cs masks) in
      ap (λ (f : Option ℕ). records_from c.unit f ++ records_of cs) mask
      ∙ ap (λ (k : ℕ). records_from k (mask_in a g k) ++ records_of cs) unit
      ∙ ap (λ (xs : List InoRec). records_from n (mask_in a g n) ++ xs) rest
      ∙ ap (λ (xs : List InoRec). xs ++ map (chunk_record a g) (filter (is_chunk a g) ns)) (from_unit n)
      ∙ more_records (unit_verifies a.geometry a.core g n) n (filter (is_chunk a g) ns)
      ∙ sym (ap (λ (b : Bool). map (chunk_record a g) (cond b (n ∷ filter (is_chunk a g) ns) (filter (is_chunk a g) ns))) (chunk_is n h))

  records_are : (ns : List ℕ) (cs : List UnitCores) → map (λ (c : UnitCores). c.unit) cs ≡ filter (is_listed a g) ns → All (λ c. c.free ≡ mask_in a g c.unit) cs
      → records_of cs ≡ map (chunk_record a g) (filter (is_chunk a g) ns)
  unfolding records_of
  records_are [] [] e masks = refl
  records_are [] (c ∷ cs) e masks = absurd (none_left c cs e)
  records_are (n ∷ ns) cs e masks = (elim (is_listed a g n) as (λ b. is_listed a g n ≡ b → map (λ (c : UnitCores). c.unit) cs ≡ cond b (n ∷ filter (is_listed a g) ns) (filter (is_listed a g) ns) → records_of cs ≡ map (chunk_record a g) (filter (is_chunk a g) (n ∷ ns))) [
    | true ↦ λ h same. from_head n ns (records_are ns) cs h same masks
    | false ↦ λ h same. records_are ns cs same masks ∙ sym (ap (λ (b : Bool). map (chunk_record a g) (cond b (n ∷ filter (is_chunk a g) ns) (filter (is_chunk a g) ns))) (no_chunk n h))
  ]) refl e

  pub records_exact : (cs : List UnitCores) → AreUnits a g cs → records_of cs ≡ ino_of a g
  unfolding ino_of chunks
  records_exact cs are = records_are (numbers 0 (group_len_of a.geometry g / 8)) cs are.listed are.masks
