-- Each tuple that nothing goes on to, with its followers: these are the maximal runs, and no others.
use Rattle.std.proofs.Common.{◌≡◌, ◌<◌, ◌≤◌, ◌+◌, ◌-◌, ◌/◌, ◌%◌, ◌^◌, ℕ, zero, suc, Bool, true, false, not, ◌||◌, List, get_or, All, Contains, refl, sym, ap, ◌∙◌, subst, inl, inr, arith}
use Rattle.std.specs.Prelude.{nat_lt, nat_le, if◌then◌else◌}
use Rattle.std.specs.List.{list_any, filter}
use Rattle.std.proofs.lemmas.Bool.{false≢true, cases_order}
use Rattle.std.proofs.lemmas.Bool.Decides.{nat_tests}
use Rattle.rmap_recs.specs.Rmap.{key_of, cleared, is_first, is_key_before, has_end}
use Rattle.rmap_recs.specs.RmapLaws.{lawful_rmap}
use Rattle.rmap_recs.specs.Words.{key_word, is_fork_data, flags_of, offset_of}
use Rattle.rmap_recs.specs.Runs.{AreTuples, HaveNext, tuple_key, is_tuple_before, goes_on, tuple_at, IsRun, AreRuns, followers, run_from, begins_run, runs_of}
use Rattle.rmap_recs.specs.declared.records.RmapRec.{RmapRec}
use Rattle.rmap_recs.specs.declared.records.Key.{Key}
use Rattle.rmap_recs.specs.declared.tuples.Tuple.{Tuple}
use Rattle.rmap_recs.proofs.WordLemmas.{key_word_twice, same_flags}
use Rattle.rmap_recs.proofs.ChainLemmas.{block_on, word_on, nth, nth-zero, only_behind, room_behind, chain_link, chain_end}
use Rattle.rmap_recs.proofs.RisingLemmas.{any_found, any_here, false_by, filtered, kept_by_filter, mapped, kept_by_map, filter_rises, Rises-map, one_rising, at_place}
use Rattle.rmap_recs.proofs.SearchLemmas.{along}

-- ---- what is computed

abbrev behind : List Tuple → Tuple → ℕ
behind ts s = followers (2 ^ 32 - s.block) ts s

not_true : (b : Bool) → not b ≡ true → b ≡ true → ⊥
not_true true h k = false≢true h
not_true false h k = false≢true k

not_false : (b : Bool) → not b ≡ false → b ≡ true
not_false true h = refl
not_false false h = absurd (false≢true (sym h))

run_is : (ts : List Tuple) → HaveNext ts → (s : Tuple) → Contains ts s → begins_run ts s ≡ true → IsRun ts (run_from ts s)
run_is ts blocks s c begins = record {
  some = omega arith;
  within = λ i below. within i below;
  consecutive = λ i below. (chain_link (2 ^ 32 - s.block) ts s i (omega arith)).1;
  first = λ t d. ap (goes_on t) (nth-zero s) ∙ false_by (goes_on t s) (λ goes. not_true (list_any (λ u. goes_on u s) ts) begins (any_here (λ u. goes_on u s) ts t d goes));
  last = λ t d. ap (λ (n : ℕ). goes_on (nth s n) t) (let e : (1 + behind ts s) - 1 ≡ behind ts s = omega arith in e)
      ∙ chain_end (2 ^ 32 - s.block) ts s blocks (omega (arith, room_behind ts blocks s c)) t d;
}
  where
    within : (i : ℕ) → i < 1 + behind ts s → Contains ts (nth s i)
    within zero below = subst (Contains ts) (sym (nth-zero s)) c
    within (suc j) below = subst (Contains ts) (ap (nth s) (let e : j + 1 ≡ suc j = omega arith in e)) (chain_link (2 ^ 32 - s.block) ts s j (omega arith)).0

-- a tuple lies in the run of a first one
abbrev Lies : List Tuple → Tuple → Type 0
Lies ts t = (s : Tuple) × (i : ℕ) × Contains ts s × (begins_run ts s ≡ true) × (i ≤ behind ts s) × (nth s i ≡ t)

one_on : (ts : List Tuple) → HaveNext ts → (u t : Tuple) → Contains ts t → goes_on u t ≡ true → Lies ts u → Lies ts t
one_on ts blocks u t c goes (s, i, has_s, begins, most, is) = elim (cases_order i (behind ts s)) [
  | inl same ↦ absurd (false≢true (sym (chain_end (2 ^ 32 - s.block) ts s blocks (omega (arith, room_behind ts blocks s has_s)) t c) ∙ ap (λ (a : Tuple). goes_on a t) (ap (nth s) (sym same) ∙ is) ∙ goes))
  | inr rest ↦ elim rest [
    | inl below ↦
        let link = chain_link (2 ^ 32 - s.block) ts s i below in
        (s, i + 1, has_s, begins, omega arith, only_behind u (nth s (i + 1)) t (ap (λ (a : Tuple). goes_on a (nth s (i + 1))) (sym is) ∙ link.1) goes)
    | inr above ↦ absurd (omega arith)
  ]
]

lies_cases : (ts : List Tuple) → HaveNext ts → (t : Tuple) → Contains ts t → ((u : Tuple) → Contains ts u → goes_on u t ≡ true → Lies ts u) → (b : Bool) → begins_run ts t ≡ b → Lies ts t
lies_cases ts blocks t c earlier true begins = (t, 0, c, begins, omega arith, nth-zero t)
lies_cases ts blocks t c earlier false begins =
    let found = any_found (λ u. goes_on u t) ts (not_false (list_any (λ u. goes_on u t) ts) begins) in
    one_on ts blocks found.0 t c found.2 (earlier found.0 found.1 found.2)

lies_by : (ts : List Tuple) → HaveNext ts → (m : ℕ) (t : Tuple) → t.block ≤ m → Contains ts t → Lies ts t
lies_by ts blocks zero t most c = lies_cases ts blocks t c (λ u d goes. absurd (omega (arith, block_on u t goes, most))) (begins_run ts t) refl
lies_by ts blocks (suc m) t most c = lies_cases ts blocks t c (λ u d goes. lies_by ts blocks m u (omega (arith, block_on u t goes, most)) d) (begins_run ts t) refl

-- keys without their unwritten flags are in the same order
pub cleared_order : (a b : Key) → is_key_before (cleared a) (cleared b) ≡ is_key_before a b
unfolding is_key_before
cleared_order a b =
    ap (λ (n : ℕ). is_first a.start b.start (is_first a.owner b.owner (nat_lt n (key_word (key_word b.word))))) (key_word_twice a.word)
    ∙ ap (λ (n : ℕ). is_first a.start b.start (is_first a.owner b.owner (nat_lt (key_word a.word) n))) (key_word_twice b.word)

pub maximal_runs : (ts : List Tuple) (recs : List RmapRec) → recs ≡ runs_of ts → AreTuples ts → HaveNext ts → AreRuns ts recs
unfolding runs_of
maximal_runs ts recs is rises blocks = subst (AreRuns ts) (sym is) computed
  where
    computed : AreRuns ts (runs_of ts)
    computed = record {
      maximal = λ r c.
          let from = mapped (run_from ts) (filter (begins_run ts) ts) r c in
          let kept = filtered (begins_run ts) ts from.0 from.1 in
          subst (IsRun ts) from.2 (run_is ts blocks from.0 kept.0 kept.1);
      all = λ t c.
          let lies = lies_by ts blocks t.block t (omega arith) c in
          (run_from ts lies.0, lies.1, kept_by_map (run_from ts) (filter (begins_run ts) ts) lies.0 (kept_by_filter (begins_run ts) ts lies.0 lies.2 lies.3), omega (arith, lies.4), lies.5);
      rising = Rises-map is_tuple_before (λ r s. is_key_before (key_of r) (key_of s)) (run_from ts)
          (λ t u before. cleared_order (tuple_key t) (tuple_key u) ∙ before)
          (filter (begins_run ts) ts) (filter_rises is_tuple_before along (begins_run ts) ts rises);
    }

-- ---- only one list

first_of : RmapRec → Tuple
first_of r = record { block = r.start; owner = r.owner; word = r.word }

same_tuples : (r s : RmapRec) → tuple_at r 0 ≡ tuple_at s 0 → (k : ℕ) → tuple_at r k ≡ tuple_at s k
unfolding first_of
same_tuples r s same k =
    let one : first_of r ≡ first_of s = sym (nth-zero (first_of r)) ∙ same ∙ nth-zero (first_of s) in
    ap (λ (t : Tuple). nth t k) one

-- a run ends where another that begins with it ends
no_longer : (ts : List Tuple) (r s : RmapRec) → IsRun ts r → IsRun ts s → ((k : ℕ) → tuple_at r k ≡ tuple_at s k) → r.count < s.count → ⊥
no_longer ts r s run other same below =
    let some = run.some in
    let on : (r.count - 1) + 1 ≡ r.count = omega arith in
    let goes = other.consecutive (r.count - 1) (omega arith) in
    let stops = run.last (tuple_at s ((r.count - 1) + 1)) (other.within ((r.count - 1) + 1) (omega arith)) in
    false≢true (sym stops ∙ ap (λ (t : Tuple). goes_on t (tuple_at s ((r.count - 1) + 1))) (same (r.count - 1)) ∙ goes)

pub same_run : (ts : List Tuple) (r s : RmapRec) → IsRun ts r → IsRun ts s → tuple_at s 0 ≡ tuple_at r 0 → s ≡ r
unfolding first_of
same_run ts r s run other same =
    let one : first_of s ≡ first_of r = sym (nth-zero (first_of s)) ∙ same ∙ nth-zero (first_of r) in
    let each = same_tuples s r same in
    let count : s.count ≡ r.count = elim (cases_order s.count r.count) [
      | inl is ↦ is
      | inr rest ↦ elim rest [
        | inl less ↦ absurd (no_longer ts s r other run each less)
        | inr more ↦ absurd (no_longer ts r s run other (λ k. sym (each k)) more)
      ]
    ] in
    λ i. record { start = (one i).block; count = count i; owner = (one i).owner; word = (one i).word }

-- a run whose first tuple lies in another run is that run
found_at : (ts : List Tuple) (r s : RmapRec) → IsRun ts r → IsRun ts s → (i : ℕ) → i < s.count → tuple_at s i ≡ tuple_at r 0 → s ≡ r
found_at ts r s run other zero below is = same_run ts r s run other is
found_at ts r s run other (suc j) below is =
    let e : j + 1 ≡ suc j = omega arith in
    let goes = other.consecutive j (omega arith) in
    absurd (false≢true (sym (run.first (tuple_at s j) (other.within j (omega arith))) ∙ ap (goes_on (tuple_at s j)) (sym is ∙ ap (tuple_at s) (sym e)) ∙ goes))

in_other : (ts : List Tuple) (recs others : List RmapRec) → AreRuns ts recs → AreRuns ts others → (r : RmapRec) → Contains recs r → Contains others r
in_other ts recs others a b r c =
    let run = a.maximal r c in
    let hit = b.all (tuple_at r 0) (run.within 0 run.some) in
    subst (Contains others) (found_at ts r hit.0 run (b.maximal hit.0 hit.2) hit.1 hit.3 hit.4) hit.2

pub only_runs : (ts : List Tuple) (recs others : List RmapRec) → AreRuns ts recs → AreRuns ts others → recs ≡ others
only_runs ts recs others a b =
    one_rising (λ r s. is_key_before (key_of r) (key_of s))
    (λ r s t. lawful_rmap.along (key_of r) (key_of s) (key_of t))
    (λ r. lawful_rmap.strict (key_of r))
    recs others a.rising b.rising (in_other ts recs others a b) (in_other ts others recs b a)

-- ---- where a run ends

flags_at : (ts : List Tuple) (r : RmapRec) → IsRun ts r → (i : ℕ) → i < r.count → flags_of (tuple_at r i).word ≡ flags_of r.word
unfolding first_of
flags_at ts r run zero below = ap (λ (t : Tuple). flags_of t.word) (nth-zero (first_of r))
flags_at ts r run (suc j) below =
    let e : j + 1 ≡ suc j = omega arith in
    let goes = run.consecutive j (omega arith) in
    ap (λ (n : ℕ). flags_of (tuple_at r n).word) (sym e)
    ∙ same_flags r.owner (tuple_at r j).word 1 (tuple_at r (j + 1)).word (word_on (tuple_at r j) (tuple_at r (j + 1)) goes)
    ∙ flags_at ts r run j (omega arith)

in_offsets : (word n : ℕ) → (word + n) / 2 ^ 54 ≡ word / 2 ^ 54 → word % 2 ^ 54 + (n + 1) ≤ 2 ^ 54
in_offsets word n flags = omega arith

at_most : (a b : ℕ) → a ≤ b → nat_le a b ≡ true
at_most a b h = grind (arith, nat_tests)

offsets_end : (ts : List Tuple) (r : RmapRec) → IsRun ts r → (t : Bool) → is_fork_data r.owner r.word ≡ t → (not t || nat_le (offset_of r.word + r.count) (2 ^ 54)) ≡ true
offsets_end ts r run false sort = refl
offsets_end ts r run true sort =
    let some = run.some in
    let on : (r.count - 1) + 1 ≡ r.count = omega arith in
    let last : (tuple_at r (r.count - 1)).word ≡ r.word + (r.count - 1) = ap (λ (t : Bool). if t then r.word + (r.count - 1) else r.word) sort in
    let flags : (r.word + (r.count - 1)) / 2 ^ 54 ≡ r.word / 2 ^ 54 = ap flags_of (sym last) ∙ flags_at ts r run (r.count - 1) (omega arith) in
    at_most (offset_of r.word + r.count) (2 ^ 54) (omega (arith, in_offsets r.word (r.count - 1) flags, on))

run_ends : (ts : List Tuple) → HaveNext ts → (r : RmapRec) → IsRun ts r → has_end r ≡ true
unfolding has_end
run_ends ts blocks r run =
    let some = run.some in
    let last = room_behind ts blocks (tuple_at r (r.count - 1)) (run.within (r.count - 1) (omega arith)) in
    rw (at_most 1 r.count (omega arith), at_most (r.start + r.count) (2 ^ 32) (omega (arith, last, some))) (offsets_end ts r run (is_fork_data r.owner r.word) refl)

pub runs_end : (ts : List Tuple) (recs : List RmapRec) → HaveNext ts → AreRuns ts recs → All (λ r. has_end r ≡ true) recs
runs_end ts recs blocks runs k d within = run_ends ts blocks (get_or recs k d) (runs.maximal (get_or recs k d) (at_place recs k d within))
