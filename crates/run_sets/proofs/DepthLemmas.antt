-- How many numbers are at most a block, and in how many runs it lies.
use Rattle.std.proofs.Common.{◌≡◌, ℕ, zero, suc, ◌+◌, ◌-◌, ◌<◌, ◌≤◌, Bool, true, false, cond, List, [], ◌∷◌, length, map, take, get_or, min, refl, ap, sym, ◌∙◌, arith, inl, inr}
use Rattle.std.specs.Prelude.{nat_le, nat_lt}
use Rattle.std.specs.List.{count_by}
use Rattle.std.specs.List.Sorted.{IsNonDecreasing, IsPermutation}
use Rattle.std.proofs.lemmas.Bool.{cases_lt, le-leb, lt-leb, lt-ltb, le-ltb}
use Rattle.std.proofs.lemmas.List.{take_all}
use Rattle.std.proofs.lemmas.List.Sums.{sum_by-cons}
use Rattle.std.proofs.lemmas.List.Sorted.{sum_by-IsPermutation}
use Rattle.run_sets.specs.declared.run.Run.{Run}
use Rattle.run_sets.specs.Runs.{is_within, most}
use Rattle.run_sets.specs.Stretches.{depth, counted, open_at, up_to, begun, ended}

more : {X : Type 0} (p : X → Bool) (x : X) (xs : List X) → count_by p (x ∷ xs) ≡ cond {A = ℕ} (p x) 1 0 + count_by p xs
more p x xs = sum_by-cons (λ y. cond (p y) 1 0) x xs

-- where the first n numbers are at most b, and no other is, they are n
pub up_to_is : (xs : List ℕ) (n b : ℕ) → n ≤ length xs → ((k : ℕ) → k < n → get_or xs k 0 ≤ b) → ((k : ℕ) → n ≤ k → k < length xs → b < get_or xs k 0) → up_to xs b ≡ n
up_to_is [] n b le passed later = omega (arith, le)
up_to_is (x ∷ xs) zero b le passed later =
    let here : nat_le x b ≡ false = lt-leb x b (later 0 (omega arith) (omega arith)) in
    let rest = up_to_is xs zero b (omega arith) (λ k lt. absurd (omega (arith, lt))) (λ k ge lt. later (suc k) (omega arith) (omega (arith, lt))) in
    let step : cond {A = ℕ} (nat_le x b) 1 0 ≡ 0 = rw here refl in
    omega (arith, more (λ y. nat_le y b) x xs, step, rest)
up_to_is (x ∷ xs) (suc n) b le passed later =
    let here : nat_le x b ≡ true = le-leb x b (passed 0 (omega arith)) in
    let rest = up_to_is xs n b (omega (arith, le)) (λ k lt. passed (suc k) (omega (arith, lt))) (λ k ge lt. later (suc k) (omega (arith, ge)) (omega (arith, lt))) in
    let step : cond {A = ℕ} (nat_le x b) 1 0 ≡ 1 = rw here refl in
    omega (arith, more (λ y. nat_le y b) x xs, step, rest)

-- ---- the turns of the bisection

pub passed_more : (xs : List ℕ) (m b : ℕ) → IsNonDecreasing xs → m < length xs → get_or xs m 0 ≤ b → (k : ℕ) → k < m + 1 → get_or xs k 0 ≤ b
passed_more xs m b up lt here k front = let rise = up k m 0 (omega (arith, front)) lt in omega (arith, rise, here)

pub later_more : (xs : List ℕ) (m b : ℕ) → IsNonDecreasing xs → m < length xs → b < get_or xs m 0 → (k : ℕ) → m ≤ k → k < length xs → b < get_or xs k 0
later_more xs m b up lt here k back within = let rise = up m k 0 back within in omega (arith, rise, here)

-- the count stays up to the next number
pub up_to_stays : (xs : List ℕ) (n block end : ℕ) → IsNonDecreasing xs → n ≤ length xs → ((k : ℕ) → k < n → get_or xs k 0 ≤ block)
    → (n < length xs → end ≤ get_or xs n 0) → (b : ℕ) → block ≤ b → b < end → up_to xs b ≡ n
up_to_stays xs n block end up le passed next b low high = up_to_is xs n b le
    (λ k lt. let p = passed k lt in omega (arith, p, low))
    (λ k ge lt. let first = next (omega (arith, ge, lt)) in let rise = up n k 0 ge lt in omega (arith, first, rise, high))

-- ---- the places of the runs

pub up_to_places : (place : Run → ℕ) (runs : List Run) (xs : List ℕ) (b : ℕ) → IsPermutation (map place runs) xs → up_to xs b ≡ count_by (λ r. nat_le (place r) b) runs
up_to_places place runs xs b same = sum_by-IsPermutation (λ y. cond (nat_le y b) 1 0) (map place runs) xs same ∙ mapped runs
  where
    mapped : (rs : List Run) → up_to (map place rs) b ≡ count_by (λ r. nat_le (place r) b) rs
    mapped [] = refl
    mapped (r ∷ rs) = more (λ y. nat_le y b) (place r) (map place rs) ∙ (ap (λ (n : ℕ). cond (nat_le (place r) b) 1 0 + n) (mapped rs) ∙ sym (more (λ s. nat_le (place s) b) r rs))

-- a run that has begun and hasn't ended holds the block
one_run : (r : Run) (b : ℕ) → cond {A = ℕ} (is_within b r) 1 0 + cond {A = ℕ} (nat_le (r.start + r.count) b) 1 0 ≡ cond {A = ℕ} (nat_le r.start b) 1 0
one_run r b = elim (cases_lt b r.start) [
  | inl front ↦
      let p : nat_le r.start b ≡ false = lt-leb r.start b front in
      let q : nat_le (r.start + r.count) b ≡ false = lt-leb (r.start + r.count) b (omega (arith, front)) in
      rw (p, q) refl
  | inr on ↦
      let p : nat_le r.start b ≡ true = le-leb r.start b on in
      elim (cases_lt b (r.start + r.count)) [
        | inl lt ↦
            let q : nat_le (r.start + r.count) b ≡ false = lt-leb (r.start + r.count) b lt in
            let s : nat_lt b (r.start + r.count) ≡ true = lt-ltb b (r.start + r.count) lt in
            rw (p, q, s) refl
        | inr ge ↦
            let q : nat_le (r.start + r.count) b ≡ true = le-leb (r.start + r.count) b ge in
            let s : nat_lt b (r.start + r.count) ≡ false = le-ltb b (r.start + r.count) ge in
            rw (p, q, s) refl
      ]
]

pub depth_is : (runs : List Run) (b : ℕ) → depth runs b + ended runs b ≡ begun runs b
depth_is [] b = refl
depth_is (r ∷ rs) b =
    omega (arith, one_run r b, depth_is rs b, more (is_within b) r rs, more (λ s. nat_le (s.start + s.count) b) r rs, more (λ s. nat_le s.start b) r rs)

pub open_is_counted : (runs : List Run) (starts ends : List ℕ) (b : ℕ) → up_to starts b ≡ begun runs b → up_to ends b ≡ ended runs b → open_at starts ends b ≡ counted runs b
open_is_counted runs starts ends b s e =
    let sum = depth_is runs b in
    let same : up_to starts b - up_to ends b ≡ depth runs b = omega (arith, sum, s, e) in
    ap (λ (n : ℕ). min n most) same

pub ends_behind : (runs : List Run) (starts ends : List ℕ) (b : ℕ) → up_to starts b ≡ begun runs b → up_to ends b ≡ ended runs b → up_to ends b ≤ up_to starts b
ends_behind runs starts ends b s e = let sum = depth_is runs b in omega (arith, sum, s, e)

-- the level from a block on
pub open_stays : (starts ends : List ℕ) (b m n v : ℕ) → up_to starts b ≡ m → up_to ends b ≡ n → v ≡ min (m - n) most → open_at starts ends b ≡ v
open_stays starts ends b m n v s e is = rw (s, e) (sym is)

-- behind the last run all are placed
pub all_placed : (place : Run → ℕ) (runs : List Run) (i : ℕ) (xs : List ℕ) → length runs ≤ i → xs ≡ map place (take i runs) → xs ≡ map place runs
all_placed place runs i xs ge is = is ∙ ap (λ (rs : List Run). map place rs) (take_all i runs ge)
