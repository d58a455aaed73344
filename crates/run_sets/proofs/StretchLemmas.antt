-- Where a block lies between the runs of a list.
use Rattle.std.proofs.Common.{◌≡◌, ℕ, zero, suc, ◌+◌, ◌-◌, ◌<◌, ◌≤◌, true, false, List, [], ◌∷◌, length, get_or, ap, arith, inl, inr}
use Rattle.std.proofs.lemmas.Bool.{cases_lt, cases_order}
use Rattle.std.proofs.lemmas.List.{get_or_default}
use Rattle.std.proofs.lemmas.List.Folds.{list_any_none, list_any_at}
use Rattle.run_sets.specs.declared.run.Run.{Run}
use Rattle.run_sets.specs.Runs.{is_within, holds, AreMaximal}
use Rattle.run_sets.proofs.OnlyRunsLemmas.{within_true, before_false, behind_false}

least_start : (a : ℕ) (rs : List Run) (k : ℕ) (d : Run) → AreMaximal a rs → k < length rs → a ≤ (get_or rs k d).start
least_start a [] k d h lt = absurd (omega (arith, lt))
least_start a (r ∷ rs) zero d h lt = h.0
least_start a (r ∷ rs) (suc k) d h lt = let rest = least_start (r.start + r.count + 1) rs k d h.2 (omega (arith, lt)) in omega (arith, rest, h.0)

-- a run ends in front of each later one
pub apart : (a : ℕ) (rs : List Run) (i j : ℕ) (d : Run) → AreMaximal a rs → i < j → j < length rs → (get_or rs i d).start + (get_or rs i d).count < (get_or rs j d).start
apart a [] i j d h le lt = absurd (omega (arith, lt))
apart a (r ∷ rs) i zero d h le lt = absurd (omega (arith, le))
apart a (r ∷ rs) zero (suc j) d h le lt = let rest = least_start (r.start + r.count + 1) rs j d h.2 (omega (arith, lt)) in omega (arith, rest)
apart a (r ∷ rs) (suc i) (suc j) d h le lt = apart (r.start + r.count + 1) rs i j d h.2 (omega (arith, le)) (omega (arith, lt))

pub starts_rise : (a : ℕ) (rs : List Run) (i j : ℕ) (d : Run) → AreMaximal a rs → i ≤ j → j < length rs → (get_or rs i d).start ≤ (get_or rs j d).start
starts_rise a rs i j d h le lt = elim (cases_order i j) [
  | inl is ↦ let same = ap (λ (k : ℕ). (get_or rs k d).start) is in omega (arith, same)
  | inr (inl front) ↦ let gap = apart a rs i j d h front lt in omega (arith, gap)
  | inr (inr back) ↦ absurd (omega (arith, le, back))
]

-- a block of a run lies in the list
pub inside : (rs : List Run) (i : ℕ) (d : Run) (b : ℕ) → i < length rs → (get_or rs i d).start ≤ b → b < (get_or rs i d).start + (get_or rs i d).count → holds rs b ≡ true
inside rs i d b lt low high = list_any_at (is_within b) rs i d lt (within_true b (get_or rs i d) low high)

-- a block behind the first n runs and in front of the others lies in none
pub outside : (rs : List Run) (n b : ℕ) → ((k : ℕ) (d : Run) → k < n → k < length rs → (get_or rs k d).start + (get_or rs k d).count ≤ b)
    → ((k : ℕ) (d : Run) → n ≤ k → k < length rs → b < (get_or rs k d).start) → holds rs b ≡ false
outside rs n b ended later = list_any_none (is_within b) rs (λ k d lt. elim (cases_lt k n) [
  | inl front ↦ behind_false b (get_or rs k d) (ended k d front lt)
  | inr back ↦ before_false b (get_or rs k d) (later k d back lt)
])

-- where the last of the first n runs has ended, each of them has
pub all_ended : (a : ℕ) (rs : List Run) (n at : ℕ) → AreMaximal a rs → n ≤ length rs → (0 < n → (d : Run) → (get_or rs (n - 1) d).start + (get_or rs (n - 1) d).count ≤ at)
    → ((k : ℕ) (d : Run) → k < n → (get_or rs k d).start + (get_or rs k d).count ≤ at)
all_ended a rs n at h le last k d front = elim (cases_order k (n - 1)) [
  | inl is ↦
      let end = last (omega (arith, front)) d in
      let start = ap (λ (j : ℕ). (get_or rs j d).start) is in
      let count = ap (λ (j : ℕ). (get_or rs j d).count) is in
      omega (arith, end, start, count)
  | inr (inl lt) ↦
      let gap = apart a rs k (n - 1) d h lt (omega (arith, front, le)) in
      let end = last (omega (arith, front)) d in
      omega (arith, gap, end)
  | inr (inr gt) ↦ absurd (omega (arith, front, gt))
]

-- ---- the turns of the bisection

pub begun_more : (rs : List Run) (m block : ℕ) (e : Run) → AreMaximal 0 rs → m < length rs → (get_or rs m e).start ≤ block
    → (k : ℕ) (d : Run) → k < m + 1 → (get_or rs k d).start ≤ block
begun_more rs m block e h lt here k d front =
    let rise = starts_rise 0 rs k m d h (omega (arith, front)) lt in
    let same = ap (λ (r : Run). r.start) (get_or_default rs m d e lt) in
    omega (arith, rise, same, here)

pub later_more : (rs : List Run) (m block : ℕ) (e : Run) → AreMaximal 0 rs → m < length rs → block < (get_or rs m e).start
    → (k : ℕ) (d : Run) → m ≤ k → k < length rs → block < (get_or rs k d).start
later_more rs m block e h lt here k d back within =
    let rise = starts_rise 0 rs m k d h back within in
    let same = ap (λ (r : Run). r.start) (get_or_default rs m d e lt) in
    omega (arith, rise, same, here)

-- ---- a block behind the last run that has begun, and one in front of all

pub outside_from : (rs : List Run) (n block : ℕ) (e : Run) → AreMaximal 0 rs → n ≤ length rs
    → (0 < n → (get_or rs (n - 1) e).start + (get_or rs (n - 1) e).count ≤ block)
    → ((k : ℕ) (d : Run) → n ≤ k → k < length rs → block < (get_or rs k d).start) → holds rs block ≡ false
outside_from rs n block e h le last later =
    outside rs n block (λ k d front within. all_ended 0 rs n block h le (λ some d'. last_of some d') k d front) later
  where
    last_of : 0 < n → (d' : Run) → (get_or rs (n - 1) d').start + (get_or rs (n - 1) d').count ≤ block
    last_of some d' =
        let within : n - 1 < length rs = omega (arith, some, le) in
        let same = get_or_default rs (n - 1) d' e within in
        let start = ap (λ (r : Run). r.start) same in
        let count = ap (λ (r : Run). r.count) same in
        let end' = last some in
        omega (arith, start, count, end')
