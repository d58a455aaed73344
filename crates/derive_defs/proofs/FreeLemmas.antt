-- Free space behind each record in turn.
use Rattle.std.proofs.Common.{◌≡◌, ℕ, zero, suc, ◌+◌, ◌-◌, ◌<◌, ◌≤◌, true, false, List, [], ◌∷◌, ◌++◌, length, get_or, refl, ap, sym, ◌∙◌, arith, append_assoc, inl, inr}
use Rattle.std.proofs.lemmas.Bool.{cases_lt, cases_eq}
use Rattle.std.proofs.lemmas.Bool.Decides.{nat_tests}
use Rattle.std.proofs.lemmas.List.{get_or_default}
use Rattle.std.proofs.lemmas.List.Folds.{list_any_none, list_any_at}
use Rattle.run_sets.specs.declared.run.Run.{Run}
use Rattle.run_sets.specs.Runs.{runs_from}
use Rattle.rmap_recs.specs.declared.records.RmapRec.{RmapRec}
use Rattle.derive_defs.specs.Free.{is_free}
use Rattle.derive_defs.specs.Mappings.{StartsRise, EndWithin, covers}
use Rattle.run_sets.proofs.RunsLemmas.{runs_behind, runs_after_stretch, runs_after_skip}

-- ---- the order of the records

tail_rises : (r : RmapRec) (rs : List RmapRec) → StartsRise (r ∷ rs) → StartsRise rs
tail_rises r [] h = tt
tail_rises r (s ∷ rs) h = h.1

first_least : (r : RmapRec) (rs : List RmapRec) (j : ℕ) (d : RmapRec) → StartsRise (r ∷ rs) → j < length (r ∷ rs) → r.start ≤ (get_or (r ∷ rs) j d).start
first_least r rs zero d h lt = omega arith
first_least r [] (suc j) d h lt = absurd (omega (arith, lt))
first_least r (s ∷ rs) (suc j) d h lt = let rest = first_least s rs j d h.1 (omega (arith, lt)) in omega (arith, h.0, rest)

starts_rise : (rs : List RmapRec) (i j : ℕ) (d : RmapRec) → StartsRise rs → i ≤ j → j < length rs → (get_or rs i d).start ≤ (get_or rs j d).start
starts_rise [] i j d h le lt = absurd (omega (arith, lt))
starts_rise (r ∷ rs) zero j d h le lt = first_least r rs j d h lt
starts_rise (r ∷ rs) (suc i) zero d h le lt = absurd (omega (arith, le))
starts_rise (r ∷ rs) (suc i) (suc j) d h le lt = starts_rise rs i j d (tail_rises r rs h) (omega (arith, le)) (omega (arith, lt))

pub ends_within : (len : ℕ) (rs : List RmapRec) (i : ℕ) (d : RmapRec) → EndWithin len rs → i < length rs → (get_or rs i d).start + (get_or rs i d).count ≤ len
ends_within len [] i d h lt = absurd (omega (arith, lt))
ends_within len (r ∷ rs) zero d h lt = h.0
ends_within len (r ∷ rs) (suc i) d h lt = ends_within len rs i d h.1 (omega (arith, lt))

-- ---- which blocks are free

covers_not_before : (b : ℕ) (r : RmapRec) → b < r.start → covers b r ≡ false
covers_not_before b r h = grind (arith, nat_tests)

covers_not_behind : (b : ℕ) (r : RmapRec) → (0 < r.count → r.start + r.count ≤ b) → covers b r ≡ false
covers_not_behind b r h = grind (arith, nat_tests)

covers_within : (b : ℕ) (r : RmapRec) → r.start ≤ b → b < r.start + r.count → covers b r ≡ true
covers_within b r low high = grind (arith, nat_tests)

-- the records in front of i cover no block from a place on
abbrev pub Passed : List RmapRec → ℕ → ℕ → Type 0
Passed rs i from = (k : ℕ) (d : RmapRec) → k < i → 0 < (get_or rs k d).count → (get_or rs k d).start + (get_or rs k d).count ≤ from

free_before : (rs : List RmapRec) (i from : ℕ) (d : RmapRec) → StartsRise rs → i < length rs → Passed rs i from → (b : ℕ) → from ≤ b → b < (get_or rs i d).start → is_free rs b ≡ true
unfolding is_free
free_before rs i from d rises lt passed b low high =
    let none = list_any_none (covers b) rs (λ k e within. elim (cases_lt k i) [
      | inl front ↦ covers_not_behind b (get_or rs k e) (λ some. let end = passed k e front some in omega (arith, end, low))
      | inr back ↦
          let same : get_or rs i d ≡ get_or rs i e = get_or_default rs i d e lt in
          let above = starts_rise rs i k e rises back within in
          covers_not_before b (get_or rs k e) (omega (arith, above, high, ap (λ (r : RmapRec). r.start) same))
    ]) in
    rw none refl

pub free_behind_all : (rs : List RmapRec) (from : ℕ) → Passed rs (length rs) from → (b : ℕ) → from ≤ b → is_free rs b ≡ true
unfolding is_free
free_behind_all rs from passed b low =
    let none = list_any_none (covers b) rs (λ k e within. covers_not_behind b (get_or rs k e) (λ some. let end = passed k e within some in omega (arith, end, low))) in
    rw none refl

taken_within : (rs : List RmapRec) (i : ℕ) (d : RmapRec) (b : ℕ) → i < length rs → (get_or rs i d).start ≤ b → b < (get_or rs i d).start + (get_or rs i d).count → is_free rs b ≡ false
unfolding is_free
taken_within rs i d b lt low high =
    let some = list_any_at (covers b) rs i d lt (covers_within b (get_or rs i d) low high) in
    rw some refl

-- ---- one more record is passed

pub passed_more : (rs : List RmapRec) (i from to : ℕ) (d : RmapRec) → i < length rs → from ≤ to → (0 < (get_or rs i d).count → (get_or rs i d).start + (get_or rs i d).count ≤ to) → Passed rs i from → Passed rs (i + 1) to
passed_more rs i from to d lt le here passed k e front some = elim (cases_eq k i) [
  | inl is ↦
      let same : get_or rs k e ≡ get_or rs i d = ap (λ (j : ℕ). get_or rs j e) is ∙ get_or_default rs i e d lt in
      let count = ap (λ (r : RmapRec). r.count) same in
      let start = ap (λ (r : RmapRec). r.start) same in
      let end = here (omega (arith, count, some)) in
      omega (arith, count, start, end)
  | inr ne ↦ let end = passed k e (omega (arith, front, ne)) some in omega (arith, end, le)
]

-- a found run joins those that were found
joined : (old new rest all found : List Run) (r : Run) → found ≡ r ∷ rest → old ++ found ≡ all → new ≡ old ++ r ∷ [] → new ++ rest ≡ all
joined old new rest all found r next so_far more =
    rw more (append_assoc old (r ∷ []) rest ∙ (ap (λ (rs : List Run). old ++ rs) (sym next) ∙ so_far))

-- a record behind a gap
pub turn_gap : (rs : List RmapRec) (i from to len : ℕ) (d : RmapRec) (old new all : List Run) → StartsRise rs → i < length rs → Passed rs i from
    → 0 < (get_or rs i d).count → to ≡ (get_or rs i d).start + (get_or rs i d).count → to ≤ len → from < (get_or rs i d).start
    → old ++ runs_from (is_free rs) from (len - from) ≡ all → new ≡ old ++ record { start = from; count = (get_or rs i d).start - from } ∷ []
    → new ++ runs_from (is_free rs) to (len - to) ≡ all
turn_gap rs i from to len d old new all rises lt passed some end within gap so_far more =
    let s : ℕ = (get_or rs i d).start in
    let taken : is_free rs s ≡ false = taken_within rs i d s lt (omega arith) (omega (arith, some)) in
    let found = runs_after_stretch (is_free rs) from s len gap (omega (arith, end, within)) (free_before rs i from d rises lt passed) (runs_behind (is_free rs) s (len - s) taken) in
    let rest = runs_after_skip (is_free rs) s to len (omega (arith, end)) within (λ b low high. taken_within rs i d b lt low (omega (arith, end, high))) in
    let next = found ∙ ap (λ (runs : List Run). record { start = from; count = s - from } ∷ runs) rest in
    joined old new (runs_from (is_free rs) to (len - to)) all (runs_from (is_free rs) from (len - from)) (record { start = from; count = s - from }) next so_far more

-- a record that begins at the first block that isn't passed, or before it
pub turn_on : (rs : List RmapRec) (i from to len : ℕ) (d : RmapRec) (old all : List Run) → i < length rs
    → from ≤ to → to ≤ len → (from < to → to ≡ (get_or rs i d).start + (get_or rs i d).count) → (get_or rs i d).start ≤ from
    → old ++ runs_from (is_free rs) from (len - from) ≡ all → old ++ runs_from (is_free rs) to (len - to) ≡ all
turn_on rs i from to len d old all lt le within end begun so_far =
    let rest = runs_after_skip (is_free rs) from to len le within (λ b low high. let is = end (omega (arith, low, high)) in taken_within rs i d b lt (omega (arith, begun, low)) (omega (arith, is, high))) in
    ap (λ (runs : List Run). old ++ runs) (sym rest) ∙ so_far
