-- The tests of an AGFL with its AGF: one by one, and what follows where none fails.
use Rattle.std.proofs.Common.{◌≡◌, ◌≢◌, ℕ, zero, suc, ◌+◌, ◌-◌, ◌%◌, ◌<◌, ◌≤◌, inl, inr, Bool, true, false, List, [], ◌∷◌, ◌++◌, Option, Some, None, get_or, refl, ap, ◌∙◌, arith}
use Rattle.std.specs.Prelude.{Result, Ok, Err, MatchResult, IfOk, if◌then◌else◌, not, map}
use Rattle.std.specs.List.{range_with_len}
use Rattle.std.proofs.lemmas.Bool.{and_parts, and_from, leb-true, ltb-true, le-leb, lt-ltb, eqb-true, eqb-false, eq-eqb, ne_eqb, not-true, cases_eq}
use Rattle.std.proofs.lemmas.List.{get_or_default}
use Rattle.byte_fields.specs.Below.{all_below}
use Rattle.byte_fields.specs.FirstFailing.{first_failing}
use Rattle.byte_fields.proofs.BelowLemmas.{each_below}
use Rattle.byte_fields.proofs.TestLemmas.{AllPass, all_pass, none_fails}
use Rattle.geom.specs.Layout.{Layout, group_len_of}
use Rattle.ag_headers.specs.Fields.{sector}
use Rattle.ag_headers.specs.Ring.{FreeRing, IsRing, IsFreeList, place_at, entries, ring_fits, differ, is_new, entry_fits}
use Rattle.ag_headers.specs.Agfl.{own_tests, entry_tests, ring_tests, ring_in, agfl_of, own_fault, entry_fault, ring_fault, agfl_fault, IsListOf}
use Rattle.ag_headers.specs.declared.fault.HeadFault.{HeadFault}
use Rattle.ag_headers.specs.declared.fault.HeadFault.TheVariants.{FreeList}
use Rattle.ag_headers.proofs.HeadLemmas.{uuid_is}
use Rattle.ag_headers.proofs.RingLemmas.{length_of_entries}

-- the test of entry i
entry_test : ℕ → FreeRing → ℕ → Bool × HeadFault
entry_test blocks ring i = (entry_fits blocks (entries ring) i, FreeList (place_at ring.first i))

-- the first fault of the entries from number i on
pub faults_from : ℕ → FreeRing → ℕ → Option HeadFault
faults_from blocks ring i = first_failing (map (entry_test blocks ring) (range_with_len i (ring.count - i)))

pub faults_start : (blocks : ℕ) (ring : FreeRing) → entry_fault blocks ring ≡ faults_from blocks ring 0
unfolding entry_fault faults_from entry_test
faults_start blocks ring =
    let all : ring.count ≡ ring.count - 0 = omega arith in
    ap (λ (n : ℕ). first_failing (map (entry_test blocks ring) (range_with_len 0 n))) all

-- one test, and those behind it
turn : (blocks : ℕ) (ring : FreeRing) (i : ℕ) → i < ring.count → faults_from blocks ring i ≡ (if entry_fits blocks (entries ring) i then faults_from blocks ring (i + 1) else Some (FreeList (place_at ring.first i)))
unfolding faults_from entry_test
turn blocks ring i below =
    let more : ring.count - i ≡ suc (ring.count - (i + 1)) = omega arith in
    ap (λ (n : ℕ). first_failing (map (entry_test blocks ring) (range_with_len i n))) more

pub faults_next : (blocks : ℕ) (ring : FreeRing) (i : ℕ) → i < ring.count → entry_fits blocks (entries ring) i ≡ true → faults_from blocks ring i ≡ faults_from blocks ring (i + 1)
faults_next blocks ring i below fits = rw fits at (turn blocks ring i below)

pub faults_here : (blocks : ℕ) (ring : FreeRing) (i : ℕ) → i < ring.count → entry_fits blocks (entries ring) i ≡ false → faults_from blocks ring i ≡ Some (FreeList (place_at ring.first i))
faults_here blocks ring i below fails = rw fails at (turn blocks ring i below)

pub faults_end : (blocks : ℕ) (ring : FreeRing) (i : ℕ) → ring.count ≤ i → faults_from blocks ring i ≡ None
unfolding faults_from
faults_end blocks ring i past =
    let none : ring.count - i ≡ 0 = omega arith in
    ap (λ (n : ℕ). first_failing (map (entry_test blocks ring) (range_with_len i n))) none

before_one : {F : Type 0} (test : Bool) (own fault : F) (rest all : Option F) → (if test then rest else Some own) ≡ Some fault → (rest ≡ Some fault → all ≡ Some fault) → (if test then all else Some own) ≡ Some fault
before_one true own fault rest all h on = on h
before_one false own fault rest all h on = h

behind_one : {F : Type 0} (test : Bool) (own : F) (rest all more : Option F) → (if test then rest else Some own) ≡ None → (rest ≡ None → all ≡ more) → (if test then all else Some own) ≡ more
behind_one true own rest all more h on = on h
behind_one false own rest all more h on = absurd cc

-- a fault of the first tests is the fault of all
before : {F : Type 0} (tests more : List (Bool × F)) (fault : F) → first_failing tests ≡ Some fault → first_failing (tests ++ more) ≡ Some fault
before [] more fault h = absurd cc
before (test ∷ tests) more fault h = before_one test.0 test.1 fault (first_failing tests) (first_failing (tests ++ more)) h (before tests more fault)

-- without one, the tests behind them decide
behind : {F : Type 0} (tests more : List (Bool × F)) → first_failing tests ≡ None → first_failing (tests ++ more) ≡ first_failing more
behind [] more h = refl
behind (test ∷ tests) more h = behind_one test.0 test.1 (first_failing tests) (first_failing (tests ++ more)) (first_failing more) h (behind tests more)

pub own_fault_first : (at : Layout) (g : ℕ) (block : List ℕ) (fault : HeadFault) → own_fault at g (sector 3 block) ≡ Some fault → agfl_fault at g block ≡ Some fault
unfolding own_fault agfl_fault
own_fault_first at g block fault h = before (own_tests at g (sector 3 block)) (ring_tests (group_len_of at g) (agfl_of block)) fault h

pub ring_fault_next : (at : Layout) (g : ℕ) (block : List ℕ) → own_fault at g (sector 3 block) ≡ None → agfl_fault at g block ≡ ring_fault (group_len_of at g) (agfl_of block)
unfolding own_fault agfl_fault ring_fault
ring_fault_next at g block h = behind (own_tests at g (sector 3 block)) (ring_tests (group_len_of at g) (agfl_of block)) h

-- the ring's own test, and those of its entries
pub ring_fails : (blocks : ℕ) (ring : FreeRing) → ring_fits ring.first ring.last ring.count ≡ false → ring_fault blocks ring ≡ Some (FreeList 119)
unfolding ring_fault
ring_fails blocks ring h = rw h refl

pub ring_passes : (blocks : ℕ) (ring : FreeRing) → ring_fits ring.first ring.last ring.count ≡ true → ring_fault blocks ring ≡ entry_fault blocks ring
unfolding ring_fault entry_fault
ring_passes blocks ring h = rw h refl

pass_each : {F : Type 0} (f : ℕ → Bool × F) (n a : ℕ) → AllPass (map f (range_with_len a n)) → (i : ℕ) → i < n → (f (a + i)).0 ≡ true
pass_each f zero a h i below = absurd (omega arith)
pass_each f (suc n) a h zero below = let e : a + 0 ≡ a = omega arith in ap (λ (k : ℕ). (f k).0) e ∙ h.0
pass_each f (suc n) a h (suc i) below =
    let e : a + suc i ≡ (a + 1) + i = omega arith in
    ap (λ (k : ℕ). (f k).0) e ∙ pass_each f n (a + 1) h.1 i (omega arith)

each_pass : {F : Type 0} (f : ℕ → Bool × F) (n a : ℕ) → ((i : ℕ) → i < n → (f (a + i)).0 ≡ true) → AllPass (map f (range_with_len a n))
each_pass f zero a h = tt
each_pass f (suc n) a h =
    let first : a ≡ a + 0 = omega arith in (
      ap (λ (k : ℕ). (f k).0) first ∙ h 0 (omega arith),
      each_pass f n (a + 1) (λ i below. let e : (a + 1) + i ≡ a + (i + 1) = omega arith in ap (λ (k : ℕ). (f k).0) e ∙ h (i + 1) (omega arith)),
    )

below_each : (p : ℕ → Bool) (n : ℕ) → ((i : ℕ) → i < n → p i ≡ true) → all_below n p ≡ true
unfolding all_below
below_each p zero h = refl
below_each p (suc n) h = and_from (all_below n p) (p n) (below_each p n (λ i lt. h i (omega arith))) (h n (omega arith))

-- what the test of an entry says
record Fits (blocks : ℕ) (xs : List ℕ) (i : ℕ) : Type 0 where
  low : 1 ≤ get_or xs i 0
  high : get_or xs i 0 < blocks
  new : (j : ℕ) → j < i → get_or xs j 0 ≢ get_or xs i 0

fits_from_test : (blocks : ℕ) (xs : List ℕ) (i : ℕ) → entry_fits blocks xs i ≡ true → Fits blocks xs i
unfolding entry_fits is_new differ
fits_from_test blocks xs i h =
    let parts = and_parts _ _ h in
    let bounds = and_parts _ _ parts.0 in
    record {
      low = leb-true _ _ bounds.0;
      high = ltb-true _ _ bounds.1;
      new = λ j lt. eqb-false _ _ (not-true _ (each_below _ i j parts.1 lt));
    }

test_from_fits : (blocks : ℕ) (xs : List ℕ) (i : ℕ) → Fits blocks xs i → entry_fits blocks xs i ≡ true
unfolding entry_fits is_new differ
test_from_fits blocks xs i fits =
    and_from _ _ (and_from _ _ (le-leb _ _ fits.low) (lt-ltb _ _ fits.high))
    (below_each _ i (λ j lt. ap not (ne_eqb _ _ (fits.new j lt))))

pub free_list_from_tests : (blocks : ℕ) (ring : FreeRing) → entry_fault blocks ring ≡ None → IsFreeList blocks ring
unfolding entry_fault
free_list_from_tests blocks ring h =
    let n = length_of_entries ring in
    let all = all_pass (entry_tests blocks ring) h in
    let each : (i : ℕ) → i < ring.count → Fits blocks (entries ring) i = λ i below. fits_from_test blocks (entries ring) i (let z : 0 + i ≡ i = omega arith in rw z at (pass_each (λ k. (entry_fits blocks (entries ring) k, FreeList (place_at ring.first k))) ring.count 0 all i below)) in
    record {
      inside = λ k d below.
          let same = get_or_default (entries ring) k d 0 below in
          let fits = each k (omega arith) in
          rw same (fits.low, fits.high);
      distinct = λ i j d lt below.
          let first = get_or_default (entries ring) i d 0 (omega arith) in
          let second = get_or_default (entries ring) j d 0 below in
          let fits = each j (omega arith) in
          rw (first, second) (fits.new i lt);
    }

pub tests_from_free_list : (blocks : ℕ) (ring : FreeRing) → IsFreeList blocks ring → entry_fault blocks ring ≡ None
unfolding entry_fault
tests_from_free_list blocks ring is =
    let n = length_of_entries ring in
    none_fails (entry_tests blocks ring) (each_pass (λ k. (entry_fits blocks (entries ring) k, FreeList (place_at ring.first k))) ring.count 0 (λ i below.
    let z : 0 + i ≡ i = omega arith in
    rw z (test_from_fits blocks (entries ring) i (record {
      low = (is.inside i 0 (omega arith)).0;
      high = (is.inside i 0 (omega arith)).1;
      new = λ j lt. is.distinct j i 0 lt (omega arith);
    }))))

pub ring_test : (first last count : ℕ) → IsRing first last count → ring_fits first last count ≡ true
unfolding ring_fits
ring_test first last count is =
    and_from _ _ (and_from _ _ (and_from _ _ (lt-ltb _ _ is.first_inside) (lt-ltb _ _ is.last_inside)) (le-leb _ _ is.fits))
    (elim (cases_eq count 0) [
      | inl none ↦ rw (eq-eqb count 0 none) refl
      | inr some ↦ let going : 0 < count = omega arith in rw (ne_eqb count 0 some, eq-eqb last ((first + count + 118) % 119) (is.joined going)) refl
    ])

ring_entries : (blocks : ℕ) (ring : FreeRing) → AllPass (entry_tests blocks ring) → entry_fault blocks ring ≡ None
unfolding entry_fault
ring_entries blocks ring h = none_fails (entry_tests blocks ring) h

-- what follows for the list of a group whose AGFL passes
pub is_list_of : (at : Layout) (g : ℕ) (block : List ℕ) (ring : FreeRing) → own_fault at g (sector 3 block) ≡ None → ring_fault (group_len_of at g) (agfl_of block) ≡ None → ring ≡ agfl_of block → IsListOf at g ring
unfolding own_fault ring_fault ring_in
is_list_of at g block ring own passed is =
    let all = all_pass (own_tests at g (sector 3 block)) own in
    let tests = all_pass (ring_tests (group_len_of at g) (agfl_of block)) passed in
    record {
      group = ap (λ (r : FreeRing). r.seqno) is ∙ eqb-true _ _ all.1.0;
      image = ap (λ (r : FreeRing). r.uuid) is ∙ uuid_is (sector 3 block) 8 at.uuid all.1.1.1.0;
      blocks = rw is (free_list_from_tests (group_len_of at g) (agfl_of block) (ring_entries (group_len_of at g) (agfl_of block) tests.1));
    }

-- a test's answer, where it was made on a part that decides the whole
pub tested_by : (r : Result FreeRing HeadFault) (whole part : Option HeadFault) (x y : FreeRing) → whole ≡ part → x ≡ y
    → MatchResult r (λ same. (part ≡ None) × (same ≡ x)) (λ fault. part ≡ Some fault)
    → MatchResult r (λ same. (whole ≡ None) × (same ≡ y)) (λ fault. whole ≡ Some fault)
tested_by (Ok same) whole part x y is to h = (is ∙ h.0, h.1 ∙ to)
tested_by (Err fault) whole part x y is to h = is ∙ h

pub ok_is_list_of : (r : Result FreeRing HeadFault) (at : Layout) (g : ℕ) (block : List ℕ) → own_fault at g (sector 3 block) ≡ None
    → MatchResult r (λ list. (ring_fault (group_len_of at g) (agfl_of block) ≡ None) × (list ≡ agfl_of block)) (λ fault. ring_fault (group_len_of at g) (agfl_of block) ≡ Some fault)
    → IfOk r (λ list. IsListOf at g list)
ok_is_list_of (Ok list) at g block own h = is_list_of at g block list own h.0 h.1
ok_is_list_of (Err fault) at g block own h = tt
