-- The entries of a ring, taken from its front and put behind its end.
use Rattle.std.proofs.Common.{◌≡◌, ◌≢◌, ℕ, ◌+◌, ◌-◌, ◌%◌, ◌<◌, ◌==◌, inl, inr, List, [], ◌∷◌, ◌++◌, Some, None, length, set, drop, sym, ap, ◌∙◌, arith, length-drop}
use Rattle.std.specs.Prelude.{if◌then◌else◌, slice_index}
use Rattle.std.specs.List.{slice_get}
use Rattle.std.proofs.lemmas.Bool.{cases_lt, cases_eq, eq-eqb, ne_eqb}
use Rattle.std.proofs.lemmas.List.{ext_get_or, get_or-set_same, get_or-set_other, get_or-drop, get_or_append_left, get_or_push, length_push, nil_from_length}
use Rattle.std.proofs.lemmas.List.FromFn.{length-map-range_with_len, get_or-map-range_with_len}
use Rattle.std.proofs.lemmas.Option.{slice_get-get_or, slice_get_past}
use Rattle.ag_headers.specs.Ring.{FreeRing, IsRing, place_at, entries}

pub length_of_entries : (ring : FreeRing) → length (entries ring) ≡ ring.count
unfolding entries
length_of_entries ring = length-map-range_with_len (λ i. slice_index ring.numbers (place_at ring.first i)) 0 ring.count

pub entry_is : (ring : FreeRing) (i : ℕ) → i < ring.count → slice_index (entries ring) i ≡ slice_index ring.numbers (place_at ring.first i)
unfolding entries
entry_is ring i below = get_or-map-range_with_len (λ k. slice_index ring.numbers (place_at ring.first k)) 0 ring.count i i 0 below (omega arith)

-- the first entry stands at the place that is named
pub first_is : (ring : FreeRing) → IsRing ring.first ring.last ring.count → 0 < ring.count → slice_get (entries ring) 0 ≡ Some (slice_index ring.numbers ring.first)
first_is ring is some =
    let n = length_of_entries ring in
    let inside = is.first_inside in
    let here : (ring.first + 0) % 119 ≡ ring.first = omega arith in
    slice_get-get_or (entries ring) 0 0 (omega arith) ∙ ap (λ (b : ℕ). Some b) (entry_is ring 0 some ∙ ap (slice_index ring.numbers) here)

pub none_is : (ring : FreeRing) → ring.count ≡ 0 → slice_get (entries ring) 0 ≡ None
none_is ring none = let n = length_of_entries ring in slice_get_past (entries ring) 0 (omega arith)

one_on : (first i : ℕ) → (first + (1 + i)) % 119 ≡ ((first + 1) % 119 + i) % 119
one_on first i = omega arith

-- with the first entry taken, the rest is left
pub rest_is : (ring taken : FreeRing) → 0 < ring.count → taken.numbers ≡ ring.numbers → taken.first ≡ (ring.first + 1) % 119 → taken.count ≡ ring.count - 1 → entries taken ≡ drop 1 (entries ring)
rest_is ring taken some numbers first count =
    let n = length_of_entries ring in
    let m = length_of_entries taken in
    let d = length-drop 1 (entries ring) in
    ext_get_or 0 (entries taken) (drop 1 (entries ring)) (omega arith) (λ i below.
    let at : place_at taken.first i ≡ place_at ring.first (1 + i) = ap (λ (f : ℕ). (f + i) % 119) first ∙ sym (one_on ring.first i) in
    entry_is taken i (omega arith) ∙ (ap (λ (xs : List ℕ). slice_index xs (place_at taken.first i)) numbers ∙ (ap (slice_index ring.numbers) at
    ∙ (sym (entry_is ring (1 + i) (omega arith)) ∙ sym (get_or-drop 1 (entries ring) i 0)))))

pub empty_stays : (ring : FreeRing) → ring.count ≡ 0 → entries ring ≡ drop 1 (entries ring)
empty_stays ring none =
    let n = length_of_entries ring in
    let e = nil_from_length (entries ring) (omega arith) in
    e ∙ sym (ap (drop 1) e)

-- where a ring begins once a block stands at this place: there, if it had no entry, and else where it did
record Begins (ring : FreeRing) (place first : ℕ) : Type 0 where
  empty : ring.count ≡ 0 → first ≡ place
  going : 0 < ring.count → first ≡ ring.first

begins : (ring : FreeRing) (place first : ℕ) → first ≡ (if ring.count == 0 then place else ring.first) → Begins ring place first
begins ring place first is = record {
  empty = λ none. rw (eq-eqb ring.count 0 none) at is;
  going = λ some. rw (ne_eqb ring.count 0 (λ none. omega arith)) at is;
}

-- the place behind the last entry
behind : (first last count : ℕ) → IsRing first last count → 0 < count → (last + 1) % 119 ≡ (first + count) % 119
behind first last count is some =
    let at = is.joined some in
    omega arith

pub put_is_ring : (ring : FreeRing) (first : ℕ) → IsRing ring.first ring.last ring.count → ring.count < 119 → first ≡ (if ring.count == 0 then (ring.last + 1) % 119 else ring.first) → IsRing first ((ring.last + 1) % 119) (ring.count + 1)
put_is_ring ring first is room from =
    let place = (ring.last + 1) % 119 in
    let b = begins ring place first from in
    elim (cases_eq ring.count 0) [
      | inl none ↦
          let f : first ≡ place = b.empty none in
          let low : place < 119 = omega arith in
          record { first_inside = omega arith; last_inside = low; fits = omega arith; joined = λ some. omega arith }
      | inr some ↦
          let going : 0 < ring.count = omega arith in
          let f : first ≡ ring.first = b.going going in
          let p : place ≡ (ring.first + ring.count) % 119 = behind ring.first ring.last ring.count is going in
          let low = is.first_inside in
          record { first_inside = omega arith; last_inside = omega arith; fits = omega arith; joined = λ more. omega arith }
    ]

-- the places of two entries aren't the same, nor is one of them the place behind the last
apart : (first count i : ℕ) → first < 119 → count < 119 → i < count → (first + i) % 119 ≢ (first + count) % 119
apart first count i low room below = λ same. omega arith

-- the new entry stands at the place behind the last
at_end : (ring : FreeRing) (first i : ℕ) → IsRing ring.first ring.last ring.count → Begins ring ((ring.last + 1) % 119) first → i ≡ ring.count → place_at first i ≡ (ring.last + 1) % 119
at_end ring first i is b end =
    elim (cases_eq ring.count 0) [
      | inl none ↦ let f : first ≡ (ring.last + 1) % 119 = b.empty none in omega arith
      | inr some ↦
          let going : 0 < ring.count = omega arith in
          let f : first ≡ ring.first = b.going going in
          let p = behind ring.first ring.last ring.count is going in
          omega arith
    ]

-- with a block put behind the last, the list has it at its end
pub put_is : (ring put : FreeRing) (block : ℕ) → length ring.numbers ≡ 119 → IsRing ring.first ring.last ring.count → ring.count < 119
    → put.numbers ≡ set ring.numbers ((ring.last + 1) % 119) block → put.first ≡ (if ring.count == 0 then (ring.last + 1) % 119 else ring.first) → put.count ≡ ring.count + 1
    → entries put ≡ entries ring ++ block ∷ []
put_is ring put block whole is room numbers from count =
    let place = (ring.last + 1) % 119 in
    let b = begins ring place put.first from in
    let n = length_of_entries ring in
    let m = length_of_entries put in
    let l = length_push (entries ring) block in
    ext_get_or 0 (entries put) (entries ring ++ block ∷ []) (omega arith) (λ i below.
    entry_is put i (omega arith) ∙ (ap (λ (xs : List ℕ). slice_index xs (place_at put.first i)) numbers ∙
    elim (cases_lt i ring.count) [
      | inl old ↦
          let going : 0 < ring.count = omega arith in
          let f : put.first ≡ ring.first = b.going going in
          let at : place_at put.first i ≡ place_at ring.first i = ap (λ (k : ℕ). (k + i) % 119) f in
          let p : place ≡ (ring.first + ring.count) % 119 = behind ring.first ring.last ring.count is going in
          let other : place_at ring.first i ≢ place = λ same. apart ring.first ring.count i is.first_inside room old (same ∙ p) in
          ap (slice_index (set ring.numbers place block)) at ∙ (get_or-set_other ring.numbers place (place_at ring.first i) block 0 other
          ∙ (sym (entry_is ring i old) ∙ sym (get_or_append_left (entries ring) (block ∷ []) 0 i (omega arith))))
      | inr new ↦
          let end : i ≡ ring.count = omega arith in
          let at : place_at put.first i ≡ place = at_end ring put.first i is b end in
          ap (slice_index (set ring.numbers place block)) at ∙ (get_or-set_same ring.numbers place block 0 (omega arith) ∙ sym (get_or_push (entries ring) block 0 i (n ∙ sym end)))
    ]))
